use Rattle.std.proofs.Common.{◌≡◌, ◌++◌, drop}
use Rattle.std.specs.List.{flat_map}
use Rattle.c62_read.specs.Block.{labels_in}
use Rattle.c62_packet.specs.Packets.{labels_of}
use Rattle.c62_check.specs.Lines.{other_line}
use Rattle.c62_check.proofs.checked.push_others.Given as goal

-- with the lines of the others it is the whole
abbrev pub invariant-loop-number : goal.invariant-loop-number
invariant-loop-number l =
    l.out.items ++ flat_map (λ n. other_line (labels_of l.packets) (labels_in l.blocks) n) (drop l.number-index l.others)
    ≡ l.fn.out.items ++ flat_map (λ n. other_line (labels_of l.packets) (labels_in l.blocks) n) l.others
