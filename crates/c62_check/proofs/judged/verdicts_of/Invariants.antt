use Rattle.c62_check.proofs.Beside.{AreVerdictsBelow}
use Rattle.c62_check.proofs.judged.verdicts_of.Given as goal

-- those on the first blocks
abbrev pub invariant-loop-number : goal.invariant-loop-number
invariant-loop-number l = AreVerdictsBelow l.blocks l.packets l.number l.verdicts.items
