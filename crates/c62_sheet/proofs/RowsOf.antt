-- The rows of a set of placements, after one was placed or taken out.
use Rattle.c62_sheet.proofs.Common.{arith, ◌≡◌, ℕ, ◌*◌, ◌<◌, ◌≤◌, List, length, Some, None, refl, sym, ap, ◌∙◌, inl}
use Rattle.c62_sheet.proofs.Common.{inr, slice_get, slice_set, slice_index_or, get_or, get_or-set_same}
use Rattle.c62_sheet.proofs.Common.{get_or-set_other}
use Rattle.c62_sheet.proofs.Common.{length-set, cases_eq, Insn, Issue, IsIssued, Spot, Spots, IsAt, spot_at, placed}
use Rattle.c62_sheet.proofs.Common.{withdrawn, nothing_placed, issue_at, issues, IsLawful}
use Rattle.c62_sheet.proofs.Common.{AreRows, Row, CycleRule, IsRowOf, Uses, AreUses, Tells, IsWith, IsWithout, IsWithin}
use Rattle.c62_sheet.proofs.Common.{IsUnused, slice_get_within, MatchOption, KeepsAll, BreaksFirst, ◌+◌, ◌↔◌}
use Rattle.c62_sheet.proofs.Common.{length-replicate, get_or-replicate, set-get_or, subst, stands_on, Fits, true}
use Rattle.c62_sheet.proofs.Common.{Option}
use Rattle.std.specs.Prelude.{replicate}
use Rattle.c62_row.specs.Issued.{IsFree}
use Rattle.c62_rules.specs.Resource.{taken_by}
use Rattle.c62_row.specs.Fields.{EachPlace, times_at}
use Rattle.c62_row.specs.Row.{row_at}
use Rattle.c62_row.proofs.Deciding.{row_follows, row_is_left, row_stays, row_is_empty, room_is_enough}
use Rattle.c62_sheet.proofs.IssuesOf.{length-issues, issues-withdrawn, placement-issued, issued-placement}
use Rattle.c62_sheet.proofs.Placing.{added, not_issued}
use Rattle.c62_sheet.proofs.Asking.{row_tells}
use Rattle.c62_sheet.proofs.Sets.{nothing_at, IsAt-withdrawn}
use Rattle.c62_sheet.proofs.Optional.{none_not_some}

-- one triple more
pub rows_placed : (block : List Insn) (set : Spots) (i : ℕ) (s : Spot) (insn : Insn) (rows : List Row) (n : ℕ)
    (d new : Row) (own : Uses) → length set ≡ length block
    → AreRows block set rows → slice_get block i ≡ Some insn → spot_at set i ≡ None → n ≡ s.cycle
    → s.cycle < length rows
    → AreUses own insn s.unit → IsWith (get_or rows n d) new own → AreRows block (placed set i s) (slice_set rows n new)
rows_placed block set i s insn rows n d new own sized are at free same within are_own more = record {
  sized = omega (arith, are.sized, length-set rows n new);
  each = λ cycle row lt. rw (added block set i insn s sized at free)
      (here cycle row (omega (arith, lt, length-set rows n new)));
}
  where
    is_free : IsFree (issues block set) i
    is_free = (
      omega (arith, length-issues block set sized, slice_get_within block i insn at),
      not_issued block set i
          insn s sized at free,
    )

    here : (cycle : ℕ) (row : Row) → cycle < length rows
        → IsRowOf (slice_index_or (slice_set rows n new) cycle row) cycle
        (slice_set (issues block set) i (Some (issue_at insn s)))
    here cycle row lt = elim (cases_eq cycle n) [
      | inl e ↦
          (let now : slice_index_or (slice_set rows n new) cycle row ≡ new = rw e
          (get_or-set_same rows n new row (omega (arith, within, same))) in
          let old : IsRowOf (get_or rows n d) s.cycle (issues block set) = rw same (are.each s.cycle d within) in
          let then = row_follows (get_or rows n d) new own (issues block set) i (issue_at insn s) is_free old are_own
          more in
          rw (now, e ∙ same) then)
      | inr apart ↦
          (let stays : slice_index_or (slice_set rows n new) cycle row ≡ slice_index_or rows cycle row =
          get_or-set_other rows n cycle new row apart in
          rw stays ((row_stays (slice_index_or rows cycle row) cycle (issues block set) i (issue_at insn s)).placed
          is_free (λ e. apart (sym e ∙ sym same)) (are.each cycle row lt)))
    ]

-- one triple fewer
module _ (block : List Insn) (set : Spots) (i : ℕ) (s : Spot) (insn : Insn) (rows : List Row)
    (lawful : IsLawful block set)
    (are : AreRows block set rows) (at : slice_get block i ≡ Some insn) (is : IsAt set i s) where
  is_issued : IsIssued (issues block set) i (issue_at insn s)
  is_issued = placement-issued block set i insn s lawful.sized at is

  pub within_rows : s.cycle < length rows
  within_rows = omega (arith, lawful.within i s is, are.sized)

  -- what it takes is among what its cycle's instructions take
  pub row_within : (row : Row) (own : Uses) → IsRowOf row s.cycle (issues block set) → AreUses own insn s.unit
      → IsWithin row own
  row_within row own of are_own = (row_is_left row row own (issues block set) i (issue_at insn s)).within is_issued
      (lawful.rules.enough s.cycle) of are_own

  pub row_left : (row new : Row) (own : Uses) → IsRowOf row s.cycle (issues block set) → AreUses own insn s.unit
      → IsWithout row new own
      → IsRowOf new s.cycle (issues block (withdrawn set i))
  row_left row new own of are_own less =
      rw (issues-withdrawn block set i lawful.sized)
      ((row_is_left row new own (issues block set) i (issue_at insn s)).left is_issued (lawful.rules.enough s.cycle) of
      are_own less)

  pub row_kept : (row : Row) (cycle : ℕ) → (s.cycle ≡ cycle → ⊥) → IsRowOf row cycle (issues block set)
      → IsRowOf row cycle (issues block (withdrawn set i))
  row_kept row cycle other of =
      rw (issues-withdrawn block set i lawful.sized)
      ((row_stays row cycle (issues block set) i (issue_at insn s)).taken_out is_issued other of)

  pub rows_withdrawn : (n : ℕ) (d new : Row) (own : Uses) → n ≡ s.cycle → AreUses own insn s.unit
      → IsWithout (get_or rows n d) new own
      → AreRows block (withdrawn set i) (slice_set rows n new)
  rows_withdrawn n d new own same are_own less = record {
    sized = omega (arith, are.sized, length-set rows n new);
    each = λ cycle row lt. here cycle row (omega (arith, lt, length-set rows n new));
  }
    where
      here : (cycle : ℕ) (row : Row) → cycle < length rows
          → IsRowOf (slice_index_or (slice_set rows n new) cycle row) cycle (issues block (withdrawn set i))
      here cycle row lt = elim (cases_eq cycle n) [
        | inl e ↦
            (let now : slice_index_or (slice_set rows n new) cycle row ≡ new = rw e
            (get_or-set_same rows n new row (omega (arith, within_rows, same))) in
            let old : IsRowOf (get_or rows n d) s.cycle (issues block set) = rw same (are.each s.cycle d within_rows) in
            rw (now, e ∙ same) (row_left (get_or rows n d) new own old are_own less))
        | inr apart ↦
            (let stays : slice_index_or (slice_set rows n new) cycle row ≡ slice_index_or rows cycle row =
            get_or-set_other rows n cycle new row apart in
            rw stays (row_kept (slice_index_or rows cycle row) cycle (λ e. apart (sym e ∙ sym same))
            (are.each cycle row lt)))
      ]

-- nothing is issued in a cycle behind all rows, and nothing while nothing is placed
none_issued : (block : List Insn) (count i : ℕ) (p : Issue) → count ≡ length block
    → IsIssued (issues block (nothing_placed count)) i p → ⊥
none_issued block count i p e is =
    let w = issued-placement block (nothing_placed count) i p (length-replicate count None ∙ e) is in
    none_not_some (spot_at (nothing_placed count) i) (nothing_at count i) (rw w.is_at refl)

pub row_of_nothing : (block : List Insn) (row : Row) (cycle : ℕ) → IsUnused row
    → IsRowOf row cycle (issues block (nothing_placed (length block)))
row_of_nothing block row cycle empty =
    row_is_empty row cycle (issues block (nothing_placed (length block))) empty
    (λ i p is now. none_issued block (length block) i p refl is)

-- a cycle behind all rows
pub row_behind : (block : List Insn) (set : Spots) (q : ℕ) (row : Row) (cycle : ℕ) → IsLawful block set → q < length set
    → 5 * length block ≤ cycle → IsUnused row
    → IsRowOf row cycle (issues block (withdrawn set q))
row_behind block set q row cycle lawful within behind empty = row_is_empty row cycle (issues block (withdrawn set q))
    empty far
  where
    far : (i : ℕ) (p : Issue) → IsIssued (issues block (withdrawn set q)) i p → p.cycle ≡ cycle → ⊥
    far i p is now =
        let w = issued-placement block (withdrawn set q) i p (length-set set q None ∙ lawful.sized) is in
        let at = IsAt-withdrawn set q i w.spot within w.is_at in
        omega (arith, lawful.within i w.spot at.1, ap (λ (x : Issue). x.cycle) w.is_issue, now, behind)

-- where a number is not placed, nothing is taken out
pub nothing_out : (set : Spots) (q : ℕ) → spot_at set q ≡ None → withdrawn set q ≡ set
nothing_out set q none = rw (← none) (set-get_or set q None)

-- the row has room for the instruction exactly where its cycle has
pub fits_here : (block : List Insn) (set : Spots) (i : ℕ) (s : Spot) (insn : Insn) (row : Row)
    → length set ≡ length block
    → slice_get block i ≡ Some insn → spot_at set i ≡ None → IsRowOf row s.cycle (issues block set)
    → EachPlace (λ place. row_at row place + times_at place (taken_by insn s.unit) < 8) ↔ KeepsAll block set i s
fits_here block set i s insn row sized at free is =
    rw (added block set i insn s sized at free) (room_is_enough row (issues block set) i (issue_at insn s) (
      omega (arith, length-issues block set sized, slice_get_within block i insn at),
      not_issued block set i insn s sized
          at free,
    ) is)

pub fits_from_row : (block : List Insn) (set : Spots) (i : ℕ) (s : Spot) (insn : Insn) (row : Row)
    → length set ≡ length block
    → slice_get block i ≡ Some insn → spot_at set i ≡ None → IsRowOf row s.cycle (issues block set)
    → stands_on block i s.unit ≡ true
    → EachPlace (λ place. row_at row place + times_at place (taken_by insn s.unit) < 8) → Fits block set i s
fits_from_row block set i s insn row sized at free is stands room = record
    { stands = stands; keeps = (fits_here block set i s insn row sized at free is).0 room }

pub row_from_fits : (block : List Insn) (set : Spots) (i : ℕ) (s : Spot) (insn : Insn) (row : Row)
    → length set ≡ length block
    → slice_get block i ≡ Some insn → spot_at set i ≡ None → IsRowOf row s.cycle (issues block set)
    → Fits block set i s → EachPlace (λ place. row_at row place + times_at place (taken_by insn s.unit) < 8)
row_from_fits block set i s insn row sized at free is fits = (fits_here block set i s insn row sized at free is).1
    fits.keeps

pub rows_of_nothing : (block : List Insn) (rows : List Row) → 5 * length block ≤ length rows
    → ((cycle : ℕ) (row : Row) → cycle < length rows → IsUnused (slice_index_or rows cycle row))
    → AreRows block (nothing_placed (length block)) rows
rows_of_nothing block rows sized empty =
    record {
      sized = sized;
      each = λ cycle row lt. row_of_nothing block (slice_index_or rows cycle row) cycle
          (empty cycle row lt);
    }

pub rows_of_copies : (block : List Insn) (row : Row) (count : ℕ) → 5 * length block ≤ count → IsUnused row
    → AreRows block (nothing_placed (length block)) (replicate count row)
rows_of_copies block row count enough empty =
    rows_of_nothing block (replicate count row) (omega (arith, enough, length-replicate {A = Row} count row))
    (λ cycle d lt. rw (get_or-replicate {A = Row} count cycle row d
    (omega (arith, lt, length-replicate {A = Row} count row))) empty)

-- the row of a cycle, as it is read
pub row_of : (block : List Insn) (set : Spots) (rows : List Row) (n cycle : ℕ) (row : Row) → AreRows block set rows
    → row ≡ get_or rows n row → n ≡ cycle
    → cycle < length rows → IsRowOf row cycle (issues block set)
row_of block set rows n cycle row are there same lt =
    let of : IsRowOf (get_or rows n row) cycle (issues block set) = rw same (are.each cycle row lt) in
    subst (λ (r : Row). IsRowOf r cycle (issues block set)) (sym there) of

-- a ready number and the row of a cycle of the block
module _ (block : List Insn) (set : Spots) (i : ℕ) (insn : Insn) (rows : List Row) (n : ℕ) (row : Row)
    (there : row ≡ get_or rows n row) (lawful : IsLawful block set)
    (are : AreRows block set rows) (at : slice_get block i ≡ Some insn) (free : spot_at set i ≡ None) where
  of_row : (cycle : ℕ) → n ≡ cycle → cycle < 5 * length block → IsRowOf row cycle (issues block set)
  of_row cycle same lt = row_of block set rows n cycle row are there same (omega (arith, are.sized, lt))

  pub told_by : (s : Spot) (own : Uses) (found : Option CycleRule) → n ≡ s.cycle → s.cycle < 5 * length block
      → AreUses own insn s.unit → Tells row own found
      → MatchOption found (KeepsAll block set i s) (λ rule. BreaksFirst block set i s rule)
  told_by s own found same lt are_own tells =
      row_tells block set i s insn row own lawful.sized at free (of_row s.cycle same lt) are_own found tells
