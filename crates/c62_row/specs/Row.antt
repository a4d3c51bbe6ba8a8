-- How much is taken of each resource: a field of four bits for each place of a resource, sixteen fields in a word.
use Rattle.std.specs.Prelude.{◌≡◌, ℕ, ◌+◌, ◌-◌, ◌<◌, ◌≤◌, min, Option, MatchOption}
use Rattle.c62_op.specs.declared.register.Unit.{Unit as FunctionalUnit}
use Rattle.c62_insn.specs.declared.insn.Insn.{Insn}
use Rattle.c62_rules.specs.declared.resource.CycleRule.{CycleRule}
use Rattle.c62_rules.specs.Resource.{rule_at, capacity_at, taken_by}
use Rattle.c62_row.specs.declared.row.Uses.{Uses}
use Rattle.c62_row.specs.declared.row.Row.{Row}
use Rattle.c62_row.specs.Fields.{field_at, EachPlace, times_at}

-- ---- what an instruction takes

abbrev pub uses_at : Uses → ℕ → ℕ
uses_at uses place = field_at uses.words place

-- what an instruction issued on a unit takes
abbrev pub AreUses : Uses → Insn → FunctionalUnit → Type 0
AreUses uses insn unit = EachPlace (λ place. uses_at uses place ≡ times_at place (taken_by insn unit))

-- ---- what a cycle is loaded with

-- What is taken of a place's resource, counted from so far below 8 that more than there is makes 8. That stands for still more
-- too.
abbrev pub row_at : Row → ℕ → ℕ
row_at row place = field_at row.words place

-- where nothing is taken
abbrev pub start_at : ℕ → ℕ
start_at place = 7 - capacity_at place

abbrev pub IsUnused : Row → Type 0
IsUnused row = EachPlace (λ place. row_at row place ≡ start_at place)

-- there is enough for what is taken and this
abbrev pub Fits : Row → Uses → Type 0
Fits row uses = EachPlace (λ place. row_at row place + uses_at uses place < 8)

-- the first place of which there is not
pub record IsFirstOver (row : Row) (uses : Uses) (place : ℕ) : Type 0 where
  pub within : place < 48
  pub over : 8 ≤ row_at row place + uses_at uses place
  pub first : (other : ℕ) → other < place → row_at row other + uses_at uses other < 8

-- the rule of that place
abbrev pub IsRuleOver : Row → Uses → CycleRule → Type 0
IsRuleOver row uses rule = (place : ℕ) × IsFirstOver row uses place × (rule ≡ rule_at place)

-- what is said against it
abbrev pub Tells : Row → Uses → Option CycleRule → Type 0
Tells row uses told = MatchOption told (Fits row uses) (IsRuleOver row uses)

-- with it, and without it
abbrev pub IsWith : Row → Row → Uses → Type 0
IsWith old new uses = EachPlace (λ place. row_at new place ≡ min 8 (row_at old place + uses_at uses place))

abbrev pub IsWithout : Row → Row → Uses → Type 0
IsWithout old new uses = EachPlace (λ place. row_at new place ≡ row_at old place - uses_at uses place)

-- it is among what is taken, of which nothing is too much
abbrev pub IsWithin : Row → Uses → Type 0
IsWithin row uses = EachPlace (λ place. uses_at uses place ≤ row_at row place)
