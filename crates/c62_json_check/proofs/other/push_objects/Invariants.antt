use Rattle.std.proofs.Common.{◌≡◌, ◌++◌, drop}
use Rattle.std.specs.List.{flat_map}
use Rattle.c62_read.specs.Block.{labels_in}
use Rattle.c62_packet.specs.Packets.{labels_of}
use Rattle.c62_json_check.specs.Members.{other_object}
use Rattle.c62_json_check.proofs.other.push_objects.Given as goal

-- with the objects of the others it is the whole
abbrev pub invariant-loop-number : goal.invariant-loop-number
invariant-loop-number l =
    (l.out.tokens
    ++ flat_map (λ n. other_object (labels_of l.packets) (labels_in l.blocks) n) (drop l.number-index l.others)
    ≡ l.fn.out.tokens ++ flat_map (λ n. other_object (labels_of l.packets) (labels_in l.blocks) n) l.others)
    × (l.out.before ≡ l.fn.out.before)
