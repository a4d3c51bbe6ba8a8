-- The steps of the loop over rows.
use Rattle.std.proofs.Common.{◌≡◌, ℕ, zero, suc, ◌+◌, ◌-◌, ◌*◌, ◌%◌, ◌^◌, ◌<◌, ◌≤◌, Bool, true, false, ◌&&◌, ◌||◌, cond}
use Rattle.std.proofs.Common.{ltb, List, [], ◌∷◌, length, map, get_or, Option, Some, None, refl, sym, ◌∙◌, ap, subst}
use Rattle.std.proofs.Common.{◌⊎◌, ⊎_elim, inl, inr, arith}
use Rattle.std.specs.Prelude.{is_some, nat_le, nat_lt, slice_get, sum_by}
use Rattle.std.specs.List.{list_any}
use Rattle.std.specs.List.Sorted.{IsStrictlyIncreasing}
use Rattle.std.proofs.lemmas.Bool.{cases_lt, cond-true, cond-false, lt-ltb, le-ltb, leb-false}
use Rattle.std.proofs.lemmas.Bool.Decides.{nat_tests}
use Rattle.std.proofs.lemmas.List.{length-map, get_or_past}
use Rattle.std.proofs.lemmas.List.Elements.{All-contains}
use Rattle.std.proofs.lemmas.List.Sums.{sum_by-cons}
use Rattle.std.proofs.lemmas.Option.{none-some, same_Some}
use Rattle.c62_op.specs.Units.{index_of as unit_index}
use Rattle.c62_insn.specs.declared.effect.Target.{Target}
use Rattle.c62_serial.specs.State.{Machine, Contents, line_capacity}
use Rattle.c62_packet.specs.declared.placed.Placed.{Placed}
use Rattle.c62_flight.specs.declared.stop.Stop.{Stop}
use Rattle.c62_flight.specs.declared.stop.Stop.TheVariants.{End, Limit}
use Rattle.c62_flight.specs.Text.{Text, Row, no_row, row_of, At, IsIssuable, insns_in}
use Rattle.c62_flight.specs.Issued.{Visit, Issued, issued_on, is_in_flight, over}
use Rattle.c62_flight.specs.Flight.{ended}
use Rattle.c62_flight.proofs.Told.{over_told}
use Rattle.c62_flight.proofs.Underway.{on_path}
use Rattle.c62_meaning.proofs.Lookup.{In, Contains_from_In}
use Rattle.c62_meaning.proofs.Runs.{the_run}
use Rattle.c62_rows.specs.declared.rows.Row.{Row as RowRead}
use Rattle.c62_rows.specs.declared.rows.Rows.{Rows as RowsRead}
use Rattle.c62_rows.specs.Rows.{row_read, text_of}
use Rattle.c62_exec.specs.Step.{Way, Fit, issuing}
use Rattle.c62_exec.specs.declared.taken.Taken.TheVariants.{Nothing}
use Rattle.c62_exec.proofs.Issues.{AllIssued}
use Rattle.c62_exec.proofs.RowBegins.{all_of_row}
use Rattle.c62_exec.proofs.InFlight.{in_flight}
use Rattle.c62_exec.proofs.Paths.{IsAt}
use Rattle.c62_exec.proofs.Room.{few_faults}

-- ---- rows of a text

none_rise : IsStrictlyIncreasing []
none_rise k l = absurd (omega arith)

pub row_rises : (text : Text) (row : ℕ) → IsIssuable text
    → IsStrictlyIncreasing (map (λ (p : Placed). unit_index p.unit) (row_of text row).insns)
row_rises text row is =
    ⊎_elim {C = IsStrictlyIncreasing (map (λ (p : Placed). unit_index p.unit) (row_of text row).insns)}
    (λ l. is.in_order row no_row l)
    (λ g. subst (λ (r : Row). IsStrictlyIncreasing (map (λ (p : Placed). unit_index p.unit) r.insns))
    (sym (get_or_past text.rows row no_row g)) none_rise)
    (cases_lt row (length text.rows))

pub row_few : (text : Text) (row : ℕ) → IsIssuable text → length (row_of text row).insns ≤ 8
row_few text row is =
    ⊎_elim {C = length (row_of text row).insns ≤ 8}
    (λ l. is.few_insns row no_row l)
    (λ g. subst (λ (r : Row). length r.insns ≤ 8) (sym (get_or_past text.rows row no_row g)) (omega arith))
    (cases_lt row (length text.rows))

-- ---- what ends a run

module _ (text : Text) (first limit : ℕ) (opening : Machine) (path : List Visit) (row cycle : ℕ) (way : Way)
    (there : IsAt text first limit opening path (At row) cycle way) where
  abbrev goes_by : Bool → Bool → Option Stop
  goes_by inside flying = cond (inside || flying) (cond (nat_le limit cycle) (Some Limit) None) (Some End)

  ended_by : goes_by (ltb row (length text.rows)) (list_any is_some way.turns) ≡ ended text limit
      (on_path text opening path) (At row) cycle
  ended_by =
      ap (λ b. goes_by (ltb row (length text.rows)) b)
      (in_flight (issued_on text path) opening cycle way there.standing)

  on : (row < length text.rows) ⊎ (list_any is_some way.turns ≡ true)
      → (ltb row (length text.rows) || list_any is_some way.turns) ≡ true
  on (inl l) = ap (λ b. b || list_any is_some way.turns) (lt-ltb _ _ l)
  on (inr e) = ap (λ b. ltb row (length text.rows) || b) e ∙ either (ltb row (length text.rows))
    where
      either : (b : Bool) → (b || true) ≡ true
      either true = refl
      either false = refl

  pub goes : (row < length text.rows) ⊎ (list_any is_some way.turns ≡ true) → cycle < limit
      → ended text limit (on_path text opening path) (At row) cycle ≡ None
  goes h l = sym ended_by ∙ cond-true _ _ _ (on h)
      ∙ cond-false _ _ _ (let f : nat_le limit cycle ≡ false = grind (arith, nat_tests) in f)

  pub limited : (row < length text.rows) ⊎ (list_any is_some way.turns ≡ true) → limit ≤ cycle
      → ended text limit (on_path text opening path) (At row) cycle ≡ Some Limit
  limited h l = sym ended_by ∙ cond-true _ _ _ (on h)
      ∙ cond-true _ _ _ (let t : nat_le limit cycle ≡ true = grind (arith, nat_tests) in t)

  pub over_all : length text.rows ≤ row → list_any is_some way.turns ≡ false
      → ended text limit (on_path text opening path) (At row) cycle ≡ Some End
  over_all l e =
      sym ended_by ∙ ap (λ b. goes_by b (list_any is_some way.turns)) (le-ltb _ _ l) ∙ ap (λ b. goes_by false b) e

  -- ---- what the row asks

  pub fits : IsIssuable text → Fit cycle (row_of text row).insns way.flight way.machine
  fits is = (all_of_row (issued_on text path) opening cycle way (row_of text row).insns there.standing
      (row_rises text row is)).fit

few_of : (rows : List Row) → ((row : Row) → In row rows → length row.insns ≤ 8)
    → sum_by (λ (row : Row). length row.insns) rows ≤ 8 * length rows
few_of [] h = omega arith
few_of (row ∷ rows) h =
    let first : length row.insns ≤ 8 = h row (inl refl) in
    let others : sum_by (λ (r : Row). length r.insns) rows ≤ 8 * length rows = few_of rows (λ r k. h r (inr k)) in
    let all : sum_by (λ (r : Row). length r.insns) (row ∷ rows) ≡ length row.insns + sum_by
    (λ (r : Row). length r.insns) rows = sum_by-cons (λ (r : Row). length r.insns) row rows in
    omega arith

-- room for the faults of a row
pub enough : (text : Text) (first limit : ℕ) (opening : Machine) (path : List Visit) (row cycle : ℕ) (way : Way)
    (state : Contents) → IsAt text first limit opening path (At row) cycle way
    → IsIssuable text → way.machine ≡ state.machine
    → length opening.faults + 8 * (length text.rows + 1) ≤ line_capacity state → 8 ≤ state.room
enough text first limit opening path row cycle way state there is same room =
    let sum : insns_in text ≤ 8 * length text.rows = few_of text.rows
    (λ r k. All-contains (λ (r : Row). length r.insns ≤ 8) text.rows r is.few_insns
    (Contains_from_In r text.rows k)) in
    let few : length way.machine.faults ≤ length opening.faults + insns_in text = few_faults text first limit opening
    path (At row) cycle way there in
    let size : length way.machine.faults ≡ length state.machine.faults = ap (λ (m : Machine). length m.faults) same in
    omega arith

-- a row is over when its cycles are, or sooner
pub over_within : (issued : Issued) (start idle : ℕ) → over issued start idle ≤ start + idle + 1
over_within issued start idle = ((over_told issued start idle (over issued start idle)).1 refl).within

-- ---- rows as the code has them

found_in : (items : List RowRead) (k : ℕ) (found : RowRead) → slice_get items k ≡ Some found
    → get_or (map row_read items) k no_row ≡ row_read found
found_in [] k found f = absurd (none-some found f)
found_in (item ∷ items) zero found f = ap row_read (same_Some item found f)
found_in (item ∷ items) (suc k) found f = found_in items k found f

pub row_is : (rows : RowsRead) (row : ℕ) (found : RowRead) → slice_get rows.rows.items row ≡ Some found
    → row_of (text_of rows) row ≡ row_read found
row_is rows row found e = found_in rows.rows.items row found e

pub row_none : (rows : RowsRead) (row : ℕ) → length rows.rows.items ≤ row → row_of (text_of rows) row ≡ no_row
row_none rows row l = get_or_past (map row_read rows.rows.items) row no_row
    (let e : length (map row_read rows.rows.items) ≡ length rows.rows.items = length-map rows.rows.items row_read in
    omega arith)

pub text_size : (rows : RowsRead) → length (text_of rows).rows ≡ length rows.rows.items
text_size rows = length-map rows.rows.items row_read
