use Rattle.std.proofs.Common.{◌≡◌, ◌++◌, drop}
use Rattle.std.specs.Prelude.{codes, map, string_bytes}
use Rattle.c62_listing.specs.Listing.{text_of}
use Rattle.c62_loop_text.specs.Packets.{insn_line}
use Rattle.c62_loop_text.proofs.writer.push_rest.Given as goal

abbrev pub invariant-loop-placed : goal.invariant-loop-placed
invariant-loop-placed l =
    string_bytes l.out ++ text_of (map (insn_line l.label (codes "|| ")) (drop l.placed-index l.rest))
    ≡ string_bytes l.fn.out ++ text_of (map (insn_line l.label (codes "|| ")) l.rest)
