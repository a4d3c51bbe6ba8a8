-- Why each instruction of a schedule isn't issued a cycle earlier, and how much later it could be (docs/SHOW.md, "Why not
-- earlier").
use Rattle.std.specs.Prelude.{◌≡◌, ℕ, ◌+◌, ◌-◌, ◌<◌, ◌==◌, Bool, true, false, List, [], ◌∷◌, ◌++◌, All, fold, length, Some, slice_get, if◌then◌else◌}
use Rattle.c62_insn.specs.declared.insn.Insn.{Insn}
use Rattle.c62_rules.specs.Resource.{taken_by}
use Rattle.c62_packet.specs.declared.placed.Placed.{Placed}
use Rattle.c62_depend.specs.Height.{height}
use Rattle.c62_why.specs.declared.why.Why.{Why as Standing}
use Rattle.c62_why.specs.declared.why.Cause.{Cause}
use Rattle.c62_why.specs.declared.why.Shortage.{Shortage}
use Rattle.c62_why.specs.declared.why.Cause.TheVariants.{First, Held, Taken, Nothing}
use Rattle.c62_why.specs.Held.{IsFree, IsHeld}
use Rattle.c62_why.specs.Taken.{IsEnoughFor, IsFirstTaken, with_taken}

-- no dependence keeps number j from the cycle before its own
abbrev pub MayCome : List Insn → List Placed → ℕ → Type 0
MayCome block placed j = (i : ℕ) → IsFree block placed i j

-- the first resource of which there is not enough for an instruction, and all others of which there is not, each once
pub record IsShortage (placed : List Placed) (one : Placed) (shortage : Shortage) : Type 0 where
  pub first : IsFirstTaken placed one shortage.first
  pub more : shortage.more.items ≡ fold (with_taken placed one shortage.first) [] (taken_by one.insn one.unit)

-- what keeps number j from the cycle before its own: there is none, the first dependence that it would break there, or else the
-- resources of which there is not enough
abbrev pub IsCause : List Insn → List Placed → ℕ → Placed → Cause → Type 0
IsCause block placed j one First = one.cycle ≡ 0
IsCause block placed j one (Held held) = (0 < one.cycle) × IsHeld block placed j held
IsCause block placed j one (Taken shortage) = (0 < one.cycle) × MayCome block placed j × IsShortage placed one shortage
IsCause block placed j one Nothing = (0 < one.cycle) × MayCome block placed j × All (IsEnoughFor placed one) (taken_by one.insn one.unit)

-- the latest cycle of number j in a schedule of so many cycles, as far as dependences go: its height, the longest chain of
-- delays that begins with it, ends with the schedule
abbrev pub latest_of : List Insn → ℕ → ℕ → ℕ
latest_of block cycles j = cycles - (height block j + 1)

-- by how many cycles number j comes before that
abbrev pub slack_of : List Insn → ℕ → ℕ → Placed → ℕ
slack_of block cycles j one = latest_of block cycles j - one.cycle

-- where number j stands, and why
pub record IsWhy (block : List Insn) (cycles : ℕ) (placed : List Placed) (j : ℕ) (why : Standing) : Type 0 where
  pub one : Placed
  pub is_one : slice_get placed j ≡ Some one
  pub line : why.line ≡ one.line
  pub cycle : why.cycle ≡ one.cycle
  pub slack : why.slack ≡ slack_of block cycles j one
  pub cause : IsCause block placed j one why.cause

-- one for each instruction, in their order
pub record AreWhys (block : List Insn) (cycles : ℕ) (placed : List Placed) (whys : List Standing) : Type 0 where
  pub count : length whys ≡ length placed
  pub each : (j : ℕ) (why : Standing) → slice_get whys j ≡ Some why → IsWhy block cycles placed j why

-- the same, where it is asked for
abbrev pub TellsWhys : Bool → List Insn → ℕ → List Placed → List Standing → Type 0
TellsWhys false block cycles placed whys = whys ≡ []
TellsWhys true block cycles placed whys = AreWhys block cycles placed whys

-- the line of number j, where that has no slack
abbrev pub critical_line : List Insn → ℕ → ℕ → Placed → List ℕ
critical_line block cycles j one = if slack_of block cycles j one == 0 then one.line ∷ [] else []

-- those of the instructions from number j on
abbrev pub critical_from : List Insn → ℕ → ℕ → List Placed → List ℕ
critical_from block cycles j [] = []
critical_from block cycles j (one ∷ placed) = critical_line block cycles j one ++ critical_from block cycles (j + 1) placed
