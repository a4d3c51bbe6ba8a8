-- What is found on the way to the least interval.
use Rattle.std.specs.Prelude.{◌≡◌, ℕ, ◌<◌, ◌≤◌, List, [], ◌∷◌, ◌++◌, Option, Some, None}
use Rattle.c62_op.specs.declared.register.Reg.{Reg}
use Rattle.c62_insn.specs.declared.insn.Insn.{Insn}
use Rattle.c62_pair.specs.declared.uses.Uses.{Uses}
use Rattle.c62_loop_bound.specs.declared.share.Share.{Share}
use Rattle.c62_loop_bound.specs.declared.dependence.Dependence.{Dependence}
use Rattle.c62_loop_bound.specs.declared.circle.Sums.{Sums}
use Rattle.c62_loop_bound.specs.Share.{width_of, cycles_of}
use Rattle.c62_loop_bound.specs.Circle.{Leads, latencies, iterations}
use Rattle.c62_loop_bound.specs.Least.{IsByShare}

-- so many cycles are none, or a share asks for them
abbrev pub IsFound : Reg → List Insn → ℕ → Type 0
IsFound counter body cycles = 0 < cycles → IsByShare counter body cycles

-- the share asks for no more
abbrev pub Covers : Reg → List Insn → Share → ℕ → Type 0
Covers counter body share cycles = 0 < width_of share → cycles_of counter body share ≤ cycles

-- a way to a number comes from this one, and to these sums
pub record IsSum (way : List Dependence) (to : ℕ) (sums : Sums) : Type 0 where
  pub leads : Leads sums.from way to
  pub cycles : sums.cycles ≡ latencies way
  pub passed : sums.iterations ≡ iterations way

-- three times the same
abbrev pub IsThrice : List Uses → List Uses → Type 0
IsThrice work path = path ≡ (work ++ work) ++ work

abbrev pub with_one : List Dependence → Option Dependence → List Dependence
with_one found None = found
with_one found (Some one) = found ++ one ∷ []
