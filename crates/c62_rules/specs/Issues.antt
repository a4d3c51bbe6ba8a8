-- Instructions that are issued in cycles on units (docs/MACHINE.md, "Packet rules").
use Rattle.std.specs.Prelude.{◌≡◌, ℕ, List, [], ◌∷◌, Option, Some, None, slice_index_or}
use Rattle.c62_op.specs.declared.register.Unit.{Unit as FunctionalUnit}
use Rattle.c62_insn.specs.declared.insn.Insn.{Insn}

-- an instruction issued in a cycle on a unit
pub record Issue : Type 0 where
  pub insn : Insn
  pub cycle : ℕ
  pub unit : FunctionalUnit

-- instructions by number, each issued or not
abbrev pub Issues : Type 0
Issues = List (Option Issue)

-- the instruction of this number is issued so
abbrev pub IsIssued : Issues → ℕ → Issue → Type 0
IsIssued issues i p = slice_index_or issues i None ≡ Some p

-- what is issued, without the numbers
abbrev pub issued : Issues → List Issue
issued [] = []
issued (None ∷ issues) = issued issues
issued (Some p ∷ issues) = p ∷ issued issues
