use Rattle.std.proofs.Common.{◌≡◌, ◌++◌, drop}
use Rattle.std.specs.List.{flat_map}
use Rattle.c62_explain_packets.specs.Remarks.{read_line}
use Rattle.c62_explain_packets.proofs.linted.push_reads.Given as goal

-- with the lines of the others it is the whole
abbrev pub invariant-loop-read : goal.invariant-loop-read
invariant-loop-read l =
    l.out.items ++ flat_map (read_line l.name) (drop l.read-index l.reads)
    ≡ l.fn.out.items ++ flat_map (read_line l.name) l.reads
