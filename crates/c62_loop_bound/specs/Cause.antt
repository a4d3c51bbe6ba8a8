-- What asks for so many cycles between two passes of any kernel of a loop (docs/SCHEDULING.md, "Loops of a program").
use Rattle.std.specs.Prelude.{◌≡◌, ℕ, ◌<◌, ◌==◌, pos, Bool, false, List, IsTrue, if◌then◌else◌}
use Rattle.std.specs.Int.{div_ceil}
use Rattle.c62_op.specs.declared.register.Reg.{Reg}
use Rattle.c62_insn.specs.declared.insn.Insn.{Insn}
use Rattle.c62_loop_bound.specs.declared.cause.Cause.{Cause}
use Rattle.c62_loop_bound.specs.declared.cause.Cause.TheVariants.{Share as OfShare, Circle as OfCircle}
use Rattle.c62_loop_bound.specs.declared.share.Share.{Share}
use Rattle.c62_loop_bound.specs.declared.dependence.Dependence.{Dependence}
use Rattle.c62_loop_bound.specs.Share.{width_of, cycles_of}
use Rattle.c62_loop_bound.specs.Circle.{IsCircle, latencies, iterations}

-- a share does
abbrev pub asks : Reg → List Insn → ℕ → Share → Bool
asks counter body cycles share = if width_of share == 0 then false else (cycles_of counter body share == cycles)

-- these dependences are a circle that does
pub record IsThatCircle (promised : Insn → Insn → Bool) (body : List Insn) (cycles : ℕ) (circle : List Dependence) : Type 0 where
  pub closed : IsCircle promised body circle
  pub some : 0 < iterations circle
  pub sum : ℕ
  pub sum_is : latencies circle ≡ pos sum
  pub is : cycles ≡ div_ceil sum (iterations circle)

-- what is told does
abbrev pub IsCauseOf : (Insn → Insn → Bool) → Reg → List Insn → ℕ → Cause → Type 0
IsCauseOf promised counter body cycles (OfShare share) = IsTrue (asks counter body cycles share)
IsCauseOf promised counter body cycles (OfCircle steps over) = IsThatCircle promised body cycles steps.items × (over ≡ iterations steps.items)
