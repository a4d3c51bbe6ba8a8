use Rattle.c62_pipeline.proofs.Lining.{AreWithout}
use Rattle.c62_pipeline.proofs.origin.line_in.Given as goal

-- it stands in none of the blocks before
abbrev pub invariant-loop-number : goal.invariant-loop-number
invariant-loop-number l = AreWithout l.blocks l.insn l.number
