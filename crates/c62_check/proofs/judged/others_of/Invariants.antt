use Rattle.c62_check.proofs.Others.{AreOthersBelow}
use Rattle.c62_check.proofs.judged.others_of.Given as goal

-- those of the first numbers that differ
abbrev pub invariant-loop-number : goal.invariant-loop-number
invariant-loop-number l = AreOthersBelow l.blocks l.packets l.number l.others.items
