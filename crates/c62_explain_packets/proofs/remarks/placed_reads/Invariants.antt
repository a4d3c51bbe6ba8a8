use Rattle.std.proofs.Common.{◌≡◌, ◌++◌, drop, map}
use Rattle.c62_explain_packets.proofs.remarks.placed_reads.Given as goal

-- with the others they are all
abbrev pub invariant-loop-early : goal.invariant-loop-early
invariant-loop-early l = map (λ read. read.early) l.all.items ++ drop l.early-index l.reads ≡ l.reads
