use Rattle.c62_pipeline.proofs.Lining.{AreOthers}
use Rattle.c62_pipeline.proofs.origin.first_in.Given as goal

-- none of those before is the same
abbrev pub invariant-loop-number : goal.invariant-loop-number
invariant-loop-number l = AreOthers l.entries l.insn l.number
