-- Which placed number is ejected for a more urgent one (docs/SCHEDULING.md, "A step of a side").
use Rattle.std.specs.Prelude.{ℕ, ◌<◌, List, Option, MatchOption}
use Rattle.c62_insn.specs.declared.insn.Insn.{Insn}
use Rattle.c62_sheet.specs.declared.entry.Spot.{Spot}
use Rattle.c62_sheet.specs.Lawful.{Spots}
use Rattle.c62_sheet.specs.Least.{IsEarly, IsLeast}
use Rattle.c62_sheet.specs.Victim.{IsVictim}

-- q is ejected for i: ejections are left, the least spot of i is later than its early cycle, and q is its victim
pub record IsEjected (block : List Insn) (set : Spots) (budget i q : ℕ) : Type 0 where
  pub left : 0 < budget
  pub least : Spot
  pub is_least : IsLeast block set i least
  pub early : ℕ
  pub is_early : IsEarly block set i early
  pub late : early < least.cycle
  pub victim : IsVictim block set i q

-- the number that is ejected for i, or that there is none
abbrev pub FindsEjected : List Insn → Spots → ℕ → ℕ → Option ℕ → Type 0
FindsEjected block set budget i found = MatchOption found ((q : ℕ) → IsEjected block set budget i q → ⊥) (IsEjected block set budget i)
