-- What is counted of a run, one row more.
use Rattle.std.proofs.Common.{◌≡◌, ◌≢◌, ℕ, ◌+◌, ◌-◌, ◌<◌, ◌≤◌, cond, eqb, List, [], ◌∷◌, ◌++◌, length, get_or, set}
use Rattle.std.proofs.Common.{refl, sym, ◌∙◌, ap, subst, ⊎_elim, inl, inr, arith}
use Rattle.std.specs.Prelude.{All, min, replicate}
use Rattle.std.proofs.lemmas.Bool.{cases_eq, cases_lt, cond-true, cond-false, eq-eqb, ne_eqb}
use Rattle.std.proofs.lemmas.Grind.{get_or-set_at}
use Rattle.std.proofs.lemmas.List.{length-set, get_or-set_other, get_or_past, get_or-replicate, length-replicate}
use Rattle.std.proofs.lemmas.List.Elements.{All-set, All-replicate}
use Rattle.std.proofs.lemmas.List.Sums.{sum_by_push}
use Rattle.c62_flight.specs.Issued.{Visit}
use Rattle.c62_exec.specs.declared.tally.Count.{Count}
use Rattle.c62_exec.specs.declared.tally.Tally.{Tally}
use Rattle.c62_exec.specs.Counts.{place_of, runs_in, next_start, cycles_in, no_count, count_at, AreCounts, IsFresh}
use Rattle.c62_exec.specs.Counts.{with_cycles, with_run, closed, AreBelow, IsTally}
use Rattle.c62_exec.proofs.Paths.{on_to}

-- ---- counts

abbrev more_if : ℕ → ℕ → ℕ → ℕ
more_if row place more = cond (eqb row place) more 0

abbrev spent : ℕ → ℕ → List Count → Count
spent more row counts = record { runs = (count_at counts row).runs; cycles = (count_at counts row).cycles + more }

abbrev ran : ℕ → List Count → Count
ran row counts = record { runs = (count_at counts row).runs + 1; cycles = (count_at counts row).cycles }

cycles_more : (more row : ℕ) (counts : List Count) (place : ℕ) → place < length counts
    → (count_at (with_cycles more row counts) place).cycles ≡ (count_at counts place).cycles + more_if row place more
cycles_more more row counts place inside =
    ⊎_elim {C = (count_at (with_cycles more row counts) place).cycles ≡ (count_at counts place).cycles + more_if row
    place more}
    (λ same. ap (λ (c : Count). c.cycles)
    (get_or-set_at counts row place (spent more row counts) no_count same (omega arith))
    ∙ ap (λ k. (count_at counts k).cycles + more) (sym same)
    ∙ ap (λ n. (count_at counts place).cycles + n) (sym (cond-true _ _ _ (eq-eqb row place (sym same)))))
    (λ other. ap (λ (c : Count). c.cycles) (get_or-set_other counts row place (spent more row counts) no_count other)
    ∙ (let e : (count_at counts place).cycles ≡ (count_at counts place).cycles + 0 = omega arith in e)
    ∙ ap (λ n. (count_at counts place).cycles + n) (sym (cond-false _ _ _ (ne_eqb row place (λ e. other (sym e))))))
    (cases_eq place row)

runs_kept : (more row : ℕ) (counts : List Count) (place : ℕ) → place < length counts
    → (count_at (with_cycles more row counts) place).runs ≡ (count_at counts place).runs
runs_kept more row counts place inside =
    ⊎_elim {C = (count_at (with_cycles more row counts) place).runs ≡ (count_at counts place).runs}
    (λ same. ap (λ (c : Count). c.runs)
    (get_or-set_at counts row place (spent more row counts) no_count same (omega arith))
    ∙ ap (λ k. (count_at counts k).runs) (sym same))
    (λ other. ap (λ (c : Count). c.runs) (get_or-set_other counts row place (spent more row counts) no_count other))
    (cases_eq place row)

runs_more : (row : ℕ) (counts : List Count) (place : ℕ) → place < length counts
    → (count_at (with_run row counts) place).runs ≡ (count_at counts place).runs + more_if row place 1
runs_more row counts place inside =
    ⊎_elim {C = (count_at (with_run row counts) place).runs ≡ (count_at counts place).runs + more_if row place 1}
    (λ same. ap (λ (c : Count). c.runs) (get_or-set_at counts row place (ran row counts) no_count same (omega arith))
    ∙ ap (λ k. (count_at counts k).runs + 1) (sym same)
    ∙ ap (λ n. (count_at counts place).runs + n) (sym (cond-true _ _ _ (eq-eqb row place (sym same)))))
    (λ other. ap (λ (c : Count). c.runs) (get_or-set_other counts row place (ran row counts) no_count other)
    ∙ (let e : (count_at counts place).runs ≡ (count_at counts place).runs + 0 = omega arith in e)
    ∙ ap (λ n. (count_at counts place).runs + n) (sym (cond-false _ _ _ (ne_eqb row place (λ e. other (sym e))))))
    (cases_eq place row)

cycles_kept : (row : ℕ) (counts : List Count) (place : ℕ) → place < length counts
    → (count_at (with_run row counts) place).cycles ≡ (count_at counts place).cycles
cycles_kept row counts place inside =
    ⊎_elim {C = (count_at (with_run row counts) place).cycles ≡ (count_at counts place).cycles}
    (λ same. ap (λ (c : Count). c.cycles) (get_or-set_at counts row place (ran row counts) no_count same (omega arith))
    ∙ ap (λ k. (count_at counts k).cycles) (sym same))
    (λ other. ap (λ (c : Count). c.cycles) (get_or-set_other counts row place (ran row counts) no_count other))
    (cases_eq place row)

-- ---- paths

next_pushed : (path : List Visit) (visit : Visit) (end : ℕ)
    → next_start (path ++ visit ∷ []) end ≡ next_start path visit.start
next_pushed [] visit end = refl
next_pushed (other ∷ path) visit end = refl

cycles_pushed : (rows place : ℕ) (path : List Visit) (visit : Visit) (end : ℕ)
    → cycles_in rows place (path ++ visit ∷ []) end ≡ cycles_in rows place path visit.start + more_if
    (place_of rows visit) place (end - visit.start)
cycles_pushed rows place [] visit end = omega arith
cycles_pushed rows place (other ∷ path) visit end =
    let rest : cycles_in rows place (path ++ visit ∷ []) end ≡ cycles_in rows place path visit.start + more_if
    (place_of rows visit) place (end - visit.start) =
    cycles_pushed rows place path visit end in
    ap (λ n. more_if (place_of rows other) place (n - other.start) + cycles_in rows place (path ++ visit ∷ []) end)
    (next_pushed path visit end)
    ∙ ap (λ n. more_if (place_of rows other) place (next_start path visit.start - other.start) + n) rest
    ∙ (let e : more_if (place_of rows other) place (next_start path visit.start - other.start)
    + (cycles_in rows place path visit.start + more_if (place_of rows visit) place (end - visit.start))
    ≡ more_if (place_of rows other) place (next_start path visit.start - other.start) + cycles_in rows place path
    visit.start
    + more_if (place_of rows visit) place (end - visit.start) = omega arith in e)

-- ---- a row more

pub same_size : (row cycle : ℕ) (old : Tally) → length (with_run row (closed cycle old)) ≡ length old.counts.items
same_size row cycle old =
    length-set (closed cycle old) row (ran row (closed cycle old))
    ∙ length-set old.counts.items old.row (spent (cycle - old.start) old.row old.counts.items)

pub tally_more : (rows : ℕ) (path : List Visit) (row cycle : ℕ) (old new : Tally) → IsTally rows path old
    → new.counts.items ≡ with_run (min row rows) (closed cycle old)
    → new.row ≡ min row rows → new.start ≡ cycle → IsTally rows (on_to path row cycle) new
tally_more rows path row cycle old new is counts at start =
    record {
      runs = λ place inside.
          let low : place < length old.counts.items = within place inside in
          ap (λ cs. (count_at cs place).runs) counts
          ∙ runs_more place_now (closed cycle old) place (low_closed place low)
          ∙ ap (λ n. n + more_if place_now place 1) (runs_kept (cycle - old.start) old.row old.counts.items place low
          ∙ is.runs place low)
          ∙ sym (sum_by_push (λ (v : Visit). cond (eqb (place_of rows v) place) 1 0) path
          (record { row = row; start = cycle }));
      cycles = λ place end inside.
          let low : place < length old.counts.items = within place inside in
          ap (λ n. (count_at (with_cycles (end - n) new.row new.counts.items) place).cycles) start
          ∙ ap (λ n. (count_at (with_cycles (end - cycle) n new.counts.items) place).cycles) at
          ∙ ap (λ cs. (count_at (with_cycles (end - cycle) place_now cs) place).cycles) counts
          ∙ cycles_more (end - cycle) place_now (with_run place_now (closed cycle old)) place (low_run place low)
          ∙ ap (λ n. n + more_if place_now place (end - cycle))
          (cycles_kept place_now (closed cycle old) place (low_closed place low) ∙ is.cycles place cycle low)
          ∙ sym (cycles_pushed rows place path (record { row = row; start = cycle }) end);
    }
  where
    place_now : ℕ
    place_now = min row rows

    within : (place : ℕ) → place < length new.counts.items → place < length old.counts.items
    within place inside = let e : length new.counts.items ≡ length old.counts.items = ap length counts
        ∙ same_size (min row rows) cycle old in omega arith

    low_closed : (place : ℕ) → place < length old.counts.items → place < length (closed cycle old)
    low_closed place low = let e : length (closed cycle old) ≡ length old.counts.items = length-set old.counts.items
        old.row (spent (cycle - old.start) old.row old.counts.items) in omega arith

    low_run : (place : ℕ) → place < length old.counts.items
        → place < length (with_run (min row rows) (closed cycle old))
    low_run place low = let e : length (with_run (min row rows) (closed cycle old)) ≡ length old.counts.items =
        same_size (min row rows) cycle old in omega arith

pub same_length : (cycles : ℕ) (tally : Tally) (counts : List Count) → counts ≡ closed cycles tally
    → length counts ≡ length tally.counts.items
same_length cycles tally counts same = ap length same
    ∙ length-set tally.counts.items tally.row (spent (cycles - tally.start) tally.row tally.counts.items)

-- the run is over
pub tally_over : (rows : ℕ) (path : List Visit) (cycles : ℕ) (tally : Tally) (counts : List Count)
    → IsTally rows path tally → counts ≡ closed cycles tally
    → AreCounts rows path cycles counts
tally_over rows path cycles tally counts is same =
    record {
      runs = λ place inside.
          let low : place < length tally.counts.items = within place inside in
          ap (λ cs. (count_at cs place).runs) same
          ∙ runs_kept (cycles - tally.start) tally.row tally.counts.items place low ∙ is.runs place low;
      cycles = λ place inside. ap (λ cs. (count_at cs place).cycles) same
          ∙ is.cycles place cycles (within place inside);
    }
  where
    within : (place : ℕ) → place < length counts → place < length tally.counts.items
    within place inside =
        let e : length counts ≡ length tally.counts.items = same_length cycles tally counts same in omega arith

-- ---- before the first row

module _ (count : ℕ) (tally : Tally) (fresh : IsFresh count tally) where
  none_at : (place : ℕ) → place < count → count_at tally.counts.items place ≡ no_count
  none_at place low = ap (λ cs. count_at cs place) fresh.counts ∙ get_or-replicate count place no_count no_count low

  within : (place : ℕ) → place < length tally.counts.items → place < count
  within place inside = let e : length tally.counts.items ≡ count = ap length fresh.counts
      ∙ length-replicate count no_count in omega arith

  pub fresh_tally : (rows : ℕ) → IsTally rows [] tally
  fresh_tally rows = record {
    runs = λ place inside. ap (λ (c : Count). c.runs) (none_at place (within place inside));
    cycles = λ place end inside.
        let low : place < count = within place inside in
        cycles_more (end - tally.start) tally.row tally.counts.items place inside
        ∙ ap (λ n. n + more_if tally.row place (end - tally.start)) (ap (λ (c : Count). c.cycles) (none_at place low))
        ∙ (let none : more_if tally.row place (end - tally.start) ≡ 0 =
        cond-false _ _ _ (ne_eqb tally.row place (λ e. let at : tally.row ≡ count = fresh.row in absurd (omega arith)))
        in
        let zero : 0 + more_if tally.row place (end - tally.start) ≡ 0 = omega arith in zero);
  }

  pub fresh_below : AreBelow 0 tally
  fresh_below = record {
    start = let e : tally.start ≡ 0 = fresh.start in omega arith;
    runs = subst (All (λ (c : Count). c.runs ≤ 0)) (sym fresh.counts)
        (All-replicate (λ (c : Count). c.runs ≤ 0) count no_count (omega arith));
    cycles = subst (All (λ (c : Count). c.cycles ≤ tally.start)) (sym fresh.counts)
        (All-replicate (λ (c : Count). c.cycles ≤ tally.start) count no_count (omega arith));
  }

-- ---- bounds

cycles_at : (most : ℕ) (counts : List Count) (place : ℕ) → All (λ (c : Count). c.cycles ≤ most) counts
    → (count_at counts place).cycles ≤ most
cycles_at most counts place all =
    ⊎_elim {C = (count_at counts place).cycles ≤ most} (λ low. all place no_count low)
    (λ past. let e : (count_at counts place).cycles ≡ 0 = ap (λ (c : Count). c.cycles)
    (get_or_past counts place no_count past) in omega arith)
    (cases_lt place (length counts))

runs_at : (most : ℕ) (counts : List Count) (place : ℕ) → All (λ (c : Count). c.runs ≤ most) counts
    → (count_at counts place).runs ≤ most
runs_at most counts place all =
    ⊎_elim {C = (count_at counts place).runs ≤ most} (λ low. all place no_count low)
    (λ past. let e : (count_at counts place).runs ≡ 0 = ap (λ (c : Count). c.runs)
    (get_or_past counts place no_count past) in omega arith)
    (cases_lt place (length counts))

-- what is counted up to a cycle
record AreClosed (cycle : ℕ) (counts : List Count) : Type 0 where
  pub runs : All (λ (c : Count). c.runs ≤ cycle) counts
  pub cycles : All (λ (c : Count). c.cycles ≤ cycle) counts

closed_below : (cycle : ℕ) (old : Tally) → AreBelow cycle old → AreClosed cycle (closed cycle old)
closed_below cycle old below =
    let start : old.start ≤ cycle = below.start in
    let here : (count_at old.counts.items old.row).cycles ≤ old.start = cycles_at old.start old.counts.items old.row
    below.cycles in
    record {
      runs = All-set (λ (c : Count). c.runs ≤ cycle) old.counts.items old.row
          (spent (cycle - old.start) old.row old.counts.items)
          (runs_at cycle old.counts.items old.row below.runs) below.runs;
      cycles = All-set (λ (c : Count). c.cycles ≤ cycle) old.counts.items old.row
          (spent (cycle - old.start) old.row old.counts.items) (omega arith)
          (λ k d low. let l : (get_or old.counts.items k d).cycles ≤ old.start = below.cycles k d low in omega arith);
    }

pub below_closed : (cycle row : ℕ) (old : Tally) (counts : List Count) → AreBelow cycle old → counts ≡ closed cycle old
    → (count_at counts row).runs ≤ cycle
below_closed cycle row old counts below same = runs_at cycle counts row
    (subst (All (λ (c : Count). c.runs ≤ cycle)) (sym same) (closed_below cycle old below).runs)

pub below_next : (cycle row : ℕ) (old new : Tally) → AreBelow cycle old
    → new.counts.items ≡ with_run row (closed cycle old) → new.start ≡ cycle → AreBelow (cycle + 1) new
below_next cycle row old new below same start =
    let closes = closed_below cycle old below in
    let here : (count_at (closed cycle old) row).runs ≤ cycle = runs_at cycle (closed cycle old) row closes.runs in
    let spent : (count_at (closed cycle old) row).cycles ≤ cycle = cycles_at cycle (closed cycle old) row closes.cycles
    in
    record {
      start = omega arith;
      runs = subst (All (λ (c : Count). c.runs ≤ cycle + 1)) (sym same)
          (All-set (λ (c : Count). c.runs ≤ cycle + 1) (closed cycle old) row (ran row (closed cycle old)) (omega arith)
          (λ k d low. let l : (get_or (closed cycle old) k d).runs ≤ cycle = closes.runs k d low in omega arith));
      cycles = subst (All (λ (c : Count). c.cycles ≤ new.start)) (sym same)
          (All-set (λ (c : Count). c.cycles ≤ new.start) (closed cycle old) row (ran row (closed cycle old))
          (omega arith)
          (λ k d low. let l : (get_or (closed cycle old) k d).cycles ≤ cycle = closes.cycles k d low in omega arith));
    }

pub below_later : (cycle later : ℕ) (tally : Tally) → AreBelow cycle tally → cycle ≤ later → AreBelow later tally
below_later cycle later tally below less = record {
  start = let l : tally.start ≤ cycle = below.start in omega arith;
  runs = λ k d low. let l : (get_or tally.counts.items k d).runs ≤ cycle = below.runs k d low in omega arith;
  cycles = below.cycles;
}
