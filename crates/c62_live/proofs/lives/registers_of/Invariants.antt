use Rattle.c62_live.proofs.Numbered.{AreFirst}
use Rattle.c62_live.proofs.lives.registers_of.Given as goal

abbrev pub invariant-loop-number : goal.invariant-loop-number
invariant-loop-number l = AreFirst l.side l.regs.items l.number
