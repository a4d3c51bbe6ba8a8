-- A search for the least spot, unit by unit.
use Rattle.c62_sheet.proofs.Common.{arith, ◌≡◌, ℕ, ◌+◌, ◌*◌, ◌<◌, ◌≤◌, ◌⊎◌, List, length, get_or, inl, inr, sym, ap}
use Rattle.c62_sheet.proofs.Common.{◌∙◌, cases_eq, cases_lt, ints, Option, Some, None, MatchOption, slice_get, true}
use Rattle.c62_sheet.proofs.Common.{FunctionalUnit, Insn, index_of, index_of-below, same_index, Spot, Spots, placed}
use Rattle.c62_sheet.proofs.Common.{stands_on}
use Rattle.c62_sheet.proofs.Common.{IsLawful, IsReady, IsAfter, IsEarly, Precedes, Fits, Row, Uses, AreRows, AreUses}
use Rattle.c62_sheet.proofs.Common.{IsRowOf, issues, get_or_default, subst, all_units, index_of-listed}
use Rattle.c62_row.specs.Row.{Fits as HasRoom}
use Rattle.c62_sheet.specs.Least.{FindsLeast}
use Rattle.c62_sheet.specs.LeastOn.{spot_on, IsFirstRoom, IsFirstOn, IsLeastAmong, FindsLeastAmong}
use Rattle.c62_sheet.proofs.Placing.{within_from_lawful, stands_from_lawful, after_from_lawful, lawful_from_fits}
use Rattle.c62_sheet.proofs.Placing.{fits_from_lawful}
use Rattle.c62_sheet.proofs.RowsOf.{fits_from_row, row_from_fits}

-- ---- one unit

module _ (block : List Insn) (set : Spots) (i : ℕ) (lawful : IsLawful block set) (in_block : i < length block)
    (ready : IsReady block set i)
    (first : ℕ) (early : IsEarly block set i first) where
  in_set : i < length set
  in_set = omega (arith, lawful.sized)

  -- no spot before the early cycle is lawful
  pub before_early : (t : Spot) → t.cycle < first → IsLawful block (placed set i t) → ⊥
  before_early t low new = let least = early.least t.cycle (after_from_lawful block set i t in_set new) in omega
      (arith, least, low)

  after_early : (cycle : ℕ) → first ≤ cycle → IsAfter block set i cycle
  after_early cycle high h bound s w is = let kept = early.after h bound s w is in omega (arith, ints, kept)

  pub none_on : (unit : FunctionalUnit) (end : ℕ) → (end ≤ first) ⊎ (stands_on block i unit ≡ true → ⊥)
      → IsFirstOn block set i unit end end
  none_on unit end why = record {
    within = omega arith;
    passed = λ cycle low new. elim why [
      | inl ends ↦ before_early (spot_on cycle unit) (omega (arith, low, ends)) new
      | inr stands ↦ stands (stands_from_lawful block set i (spot_on cycle unit) in_set new)
    ];
    lawful = λ less. absurd (omega (arith, less));
  }

  -- the first cycle with room is the first lawful one
  pub first_lawful : (unit : FunctionalUnit) (insn : Insn) (rows : List Row) (uses : Uses) (row : Row) (end found : ℕ)
      → slice_get block i ≡ Some insn → stands_on block i unit ≡ true
      → AreRows block set rows → AreUses uses insn unit → end ≤ 5 * length block → IsFirstRoom rows uses first end found
      → IsFirstOn block set i unit end found
  first_lawful unit insn rows uses row end found at stands are own limit room = record {
    within = room.within;
    passed = λ cycle low new. elim (cases_lt cycle first) [
      | inl early ↦ before_early (spot_on cycle unit) early new
      | inr late ↦ room.passed cycle row late low
          (room_of cycle (omega (arith, low, room.within, limit))
          (fits_from_lawful block set i (spot_on cycle unit) insn lawful at in_block ready.free new))
    ];
    lawful = λ less.
        lawful_from_fits block set i (spot_on found unit) insn lawful at in_block ready.free ready.founded
        (after_early found (room.behind less)) (omega (arith, less, limit))
        (fits_of found (omega (arith, less, limit)) (room.room row less));
  }
    where
      row_at_cycle : (cycle : ℕ) → cycle < 5 * length block → IsRowOf (get_or rows cycle row) cycle (issues block set)
      row_at_cycle cycle low = are.each cycle row (omega (arith, low, are.sized))

      room_of : (cycle : ℕ) → cycle < 5 * length block → Fits block set i (spot_on cycle unit)
          → HasRoom (get_or rows cycle row) uses
      room_of cycle low fits place within =
          let room = row_from_fits block set i (spot_on cycle unit) insn (get_or rows cycle row) lawful.sized at
          ready.free (row_at_cycle cycle low) fits place within in
          omega (arith, own place within, room)

      fits_of : (cycle : ℕ) → cycle < 5 * length block → HasRoom (get_or rows cycle row) uses
          → Fits block set i (spot_on cycle unit)
      fits_of cycle low has =
          fits_from_row block set i (spot_on cycle unit) insn (get_or rows cycle row) lawful.sized at ready.free
          (row_at_cycle cycle low) stands
          (λ place within. (let room = has place within in omega (arith, own place within, room)))

-- ---- one unit more

module _ (block : List Insn) (set : Spots) (i : ℕ) (sized : i < length set) (unit : FunctionalUnit) where
  same_unit_spot : (t : Spot) → index_of t.unit ≡ index_of unit → IsLawful block (placed set i t)
      → IsLawful block (placed set i (spot_on t.cycle unit))
  same_unit_spot t same new = rw (ap (spot_on t.cycle) (sym (same_index t.unit unit same))) new

  late : (end cycle : ℕ) (t : Spot) → IsFirstOn block set i unit end cycle → index_of t.unit ≡ index_of unit
      → IsLawful block (placed set i t) → cycle ≤ t.cycle
  late end cycle t on same new = elim (cases_lt t.cycle cycle) [
    | inl low ↦ absurd (on.passed t.cycle low (same_unit_spot t same new))
    | inr high ↦ high
  ]

  earlier_or_here : (t : Spot) → index_of t.unit < index_of unit + 1 → (index_of t.unit < index_of unit)
      ⊎ (index_of t.unit ≡ index_of unit)
  earlier_or_here t low = elim (cases_eq (index_of t.unit) (index_of unit)) [
    | inl e ↦ inr e
    | inr ne ↦ inl (omega (arith, low, ne))
  ]

  -- an earlier cycle is found on it
  pub found_here : (found : Option Spot) (end cycle : ℕ)
      → MatchOption found (end ≡ 5 * length block) (λ s. end ≡ s.cycle)
      → FindsLeastAmong block set i (index_of unit) found → IsFirstOn block set i unit end cycle → cycle < end
      → IsLeastAmong block set i (index_of unit + 1) (spot_on cycle unit)
  found_here found end cycle ends before on less = record {
    among = omega arith;
    lawful = on.lawful less;
    first = λ t low new. elim (earlier_or_here t low) [
      | inr same ↦ here t (late end cycle t on same new) same
      | inl earlier ↦ inl (behind found ends before t earlier new)
    ];
  }
    where
      here : (t : Spot) → cycle ≤ t.cycle → index_of t.unit ≡ index_of unit → Precedes (spot_on cycle unit) t
      here t high same = elim (cases_eq cycle t.cycle) [
        | inl e ↦ inr (e, omega (arith, same))
        | inr ne ↦ inl (omega (arith, high, ne))
      ]

      behind : (found : Option Spot) → MatchOption found (end ≡ 5 * length block) (λ s. end ≡ s.cycle)
          → FindsLeastAmong block set i (index_of unit) found
          → (t : Spot) → index_of t.unit < index_of unit → IsLawful block (placed set i t) → cycle < t.cycle
      behind None ends none t earlier new = absurd (none t earlier new)
      behind (Some s) ends one t earlier new = elim (one.first t earlier new) [
        | inl sooner ↦ omega (arith, sooner, ends, less)
        | inr w ↦ omega (arith, w.0, ends, less)
      ]

  -- no earlier cycle is found on it
  pub kept : (found : Option Spot) (end cycle : ℕ) → MatchOption found (end ≡ 5 * length block) (λ s. end ≡ s.cycle)
      → FindsLeastAmong block set i (index_of unit) found → IsFirstOn block set i unit end cycle → end ≤ cycle
      → FindsLeastAmong block set i (index_of unit + 1) found
  kept None end cycle ends none on more = λ t low new. elim (earlier_or_here t low) [
    | inl earlier ↦ none t earlier new
    | inr same ↦ omega (arith, late end cycle t on same new, within_from_lawful block set i t sized new, ends, more)
  ]
  kept (Some s) end cycle ends one on more = record {
    among = omega (arith, one.among);
    lawful = one.lawful;
    first = λ t low new. elim (earlier_or_here t low) [
      | inl earlier ↦ one.first t earlier new
      | inr same ↦ (let high = late end cycle t on same new in elim (cases_eq s.cycle t.cycle) [
        | inl e ↦ inr (e, omega (arith, one.among, same))
        | inr ne ↦ inl (omega (arith, high, ends, more, ne))
      ])
    ];
  }

-- the least spot on eight units is the least of all
pub least_of_all : (block : List Insn) (set : Spots) (i count : ℕ) (found : Option Spot) → 8 ≤ count
    → FindsLeastAmong block set i count found → FindsLeast block set i found
least_of_all block set i count None all none = λ t new. none t (omega (arith, all, index_of-below t.unit)) new
least_of_all block set i count (Some s) all one = record
    { lawful = one.lawful; first = λ t new. one.first t (omega (arith, all, index_of-below t.unit)) new }

-- ---- the rows of one unit

pub room_at : (rows : List Row) (n cycle : ℕ) (row : Row) (uses : Uses) → row ≡ get_or rows n row → n ≡ cycle
    → cycle < length rows → HasRoom row uses
    → (d : Row) → HasRoom (get_or rows cycle d) uses
room_at rows n cycle row uses is same within room d =
    let there : get_or rows cycle d ≡ row = get_or_default rows cycle d row within
    ∙ ap (λ (k : ℕ). get_or rows k row) (sym same) ∙ sym is in
    subst (λ (r : Row). HasRoom r uses) (sym there) room

pub room_from : (rows : List Row) (n cycle : ℕ) (row : Row) (uses : Uses) → row ≡ get_or rows n row → n ≡ cycle
    → cycle < length rows
    → (d : Row) → HasRoom (get_or rows cycle d) uses → HasRoom row uses
room_from rows n cycle row uses is same within d room =
    let there : get_or rows cycle d ≡ row = get_or_default rows cycle d row within
    ∙ ap (λ (k : ℕ). get_or rows k row) (sym same) ∙ sym is in
    subst (λ (r : Row). HasRoom r uses) there room

-- ---- the loop through the units

pub end_within : (block : List Insn) (set : Spots) (i count : ℕ) (found : Option Spot) (end : ℕ) → i < length set
    → MatchOption found (end ≡ 5 * length block) (λ s. end ≡ s.cycle) → FindsLeastAmong block set i count found
    → end ≤ 5 * length block
end_within block set i count None end sized ends among = omega (arith, ends)
end_within block set i count (Some s) end sized ends among = omega
    (arith, ends, within_from_lawful block set i s sized among.lawful)

pub at_unit : (block : List Insn) (set : Spots) (i k : ℕ) (d : FunctionalUnit) (found : Option Spot) → k < 8
    → FindsLeastAmong block set i k found
    → FindsLeastAmong block set i (index_of (get_or all_units k d)) found
at_unit block set i k d found low among = subst (λ (n : ℕ). FindsLeastAmong block set i n found)
    (sym (index_of-listed k d low)) among

pub next_unit : (block : List Insn) (set : Spots) (i k : ℕ) (d : FunctionalUnit) (found : Option Spot) → k < 8
    → FindsLeastAmong block set i (index_of (get_or all_units k d) + 1) found
    → FindsLeastAmong block set i (k + 1) found
next_unit block set i k d found low among = subst (λ (n : ℕ). FindsLeastAmong block set i (n + 1) found)
    (index_of-listed k d low) among
