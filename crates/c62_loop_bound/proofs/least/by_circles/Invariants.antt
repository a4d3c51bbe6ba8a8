use Rattle.std.proofs.Common.{Bool, List}
use Rattle.std.specs.Prelude.{All}
use Rattle.c62_op.specs.declared.register.Reg.{Reg}
use Rattle.c62_insn.specs.declared.insn.Insn.{Insn}
use Rattle.c62_loop_bound.specs.Circle.{IsDependence}
use Rattle.c62_loop_bound.specs.Least.{IsAsked}
use Rattle.c62_loop_bound.proofs.least.by_circles.Given as goal

-- what is asked so far
abbrev pub invariant-loop : goal.invariant-loop
invariant-loop l = (promised : Insn → Insn → Bool) (counter : Reg) (body : List Insn)
    → All (IsDependence promised body) l.dependences → IsAsked promised counter body l.shares
    → IsAsked promised counter body l.least
