-- Which entry of a list is the first that is not legal (docs/SCHEDULING.md, "Journal").
use Rattle.std.specs.Prelude.{◌≡◌, ℕ, List, Some, take, slice_get}
use Rattle.c62_insn.specs.declared.insn.Insn.{Insn}
use Rattle.c62_sheet.specs.declared.entry.Entry.{Entry}
use Rattle.c62_sheet.specs.Lawful.{Spots}
use Rattle.c62_sheet.specs.Journal.{replayed, Permits, IsLegal}

-- the entries before index k are legal, and the one there is not
pub record IsFirstBad (block : List Insn) (set : Spots) (entries : List Entry) (k : ℕ) : Type 0 where
  pub entry : Entry
  pub there : slice_get entries k ≡ Some entry
  pub legal : IsLegal block set (take k entries)
  pub bad : Permits block (replayed set (take k entries)) entry → ⊥
