use Rattle.std.proofs.Common.{◌≡◌, ◌++◌, drop}
use Rattle.std.specs.Prelude.{map}
use Rattle.c62_live.specs.Live.{dead}
use Rattle.c62_live.proofs.lives.behind.Given as goal

abbrev pub invariant-loop-reg : goal.invariant-loop-reg
invariant-loop-reg l = l.tracked.items ++ map dead (drop l.reg-index l.regs) ≡ map dead l.regs
