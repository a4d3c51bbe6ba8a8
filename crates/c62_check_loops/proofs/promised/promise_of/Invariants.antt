use Rattle.std.proofs.Common.{◌≡◌, take}
use Rattle.c62_op.specs.declared.register.Reg.{Reg}
use Rattle.c62_pair.specs.RegSet.{reg_in}
use Rattle.c62_check_loops.specs.Promised.{is_among}
use Rattle.c62_check_loops.proofs.promised.promise_of.Given as goal

-- the registers so far
abbrev pub invariant-loop-reg : goal.invariant-loop-reg
invariant-loop-reg l = (reg : Reg) → reg_in l.bases reg ≡ is_among (take l.reg-index l.regs) reg
