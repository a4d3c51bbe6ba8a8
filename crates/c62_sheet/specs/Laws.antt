-- Laws of sets of placements, in the words of the rules.
use Rattle.std.specs.Prelude.{◌≡◌, ◌↔◌, ℕ, ◌+◌, ◌*◌, ◌<◌, ◌≤◌, List, length, None}
use Rattle.c62_op.specs.declared.register.Side.{Side}
use Rattle.c62_op.specs.declared.register.Unit.{Unit as FunctionalUnit}
use Rattle.c62_insn.specs.declared.insn.Insn.{Insn}
use Rattle.c62_depend.specs.Plan.{IsPlan}
use Rattle.c62_sheet.specs.declared.entry.Spot.{Spot}
use Rattle.c62_sheet.specs.Lawful.{Spots, IsAt, spot_at, placed, withdrawn, nothing_placed, IsLawful}
use Rattle.c62_sheet.specs.Least.{IsReady, IsReadyOn, IsEarly, IsLeast, IsPick, IsLast, IsComplete}
use Rattle.c62_sheet.specs.Index.{lacking}
use Rattle.c62_sheet.specs.Early.{IsDirectEarly}

-- a number has one least spot at most
abbrev pub HasOneLeast : List Insn → Spots → ℕ → Type 0
HasOneLeast block set i = (s t : Spot) → IsLeast block set i s → IsLeast block set i t → s ≡ t

-- a side has one pick at most
abbrev pub HasOnePick : List Insn → Spots → Side → Type 0
HasOnePick block set of = (i k : ℕ) → IsPick block set of i → IsPick block set of k → i ≡ k

-- where not every number is placed, some side has a ready one
abbrev pub HasSomeReady : List Insn → Spots → Type 0
HasSomeReady block set = (IsComplete block set → ⊥) → (of : Side) × ((i : ℕ) × IsReadyOn block set of i)

-- number i fits in cycle 5 k, and its least spot is no later
pub record HasRoom (block : List Insn) (set : Spots) (i k : ℕ) : Type 0 where
  pub unit : FunctionalUnit
  pub fits : IsLawful block (placed set i (record { cycle = 5 * k; unit = unit }))
  pub least : (s : Spot) → IsLeast block set i s → s.cycle ≤ 5 * k

-- where all that is placed stands at least five cycles before cycle 5 k, every ready number fits in that cycle
abbrev pub FindsRoom : List Insn → Spots → Type 0
FindsRoom block set = (i k : ℕ) → IsPlan block → IsLawful block set → IsReady block set i → i < length block → k < length block
    → ((j : ℕ) (t : Spot) → IsAt set j t → t.cycle + 5 ≤ 5 * k) → HasRoom block set i k

-- what no placed number depends on can be taken out
abbrev pub CanTakeOut : List Insn → Spots → Type 0
CanTakeOut block set = (i : ℕ) → IsLawful block set → i < length block → IsLast block set i → IsLawful block (withdrawn set i)

-- nothing placed is lawful
abbrev pub IsLawfulEmpty : List Insn → Type 0
IsLawfulEmpty block = IsLawful block (nothing_placed (length block))

-- on a lawful set a number that isn't placed is ready exactly where none of those that it depends on directly is missing
abbrev pub DirectOnesTellReady : List Insn → Spots → Type 0
DirectOnesTellReady block set = (i : ℕ) → IsLawful block set → spot_at set i ≡ None → (lacking block set i ≡ 0) ↔ IsReady block set i

-- on a lawful set the early cycle of a ready number is the first that its direct dependences allow
abbrev pub DirectOnesTellEarly : List Insn → Spots → Type 0
DirectOnesTellEarly block set = (i cycle : ℕ) → IsLawful block set → IsReady block set i → IsDirectEarly block set i cycle ↔ IsEarly block set i cycle
