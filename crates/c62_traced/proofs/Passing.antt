-- A row tells what is left of it, cycle by cycle.
use Rattle.std.proofs.Common.{◌≡◌, ◌∙◌, ℕ, zero, suc, ◌+◌, ◌-◌, ◌<◌, ◌≤◌, Bool, true, false, List, [], ◌++◌}
use Rattle.std.proofs.Common.{Option, Some}
use Rattle.std.proofs.Common.{None, ◌⊎◌, inl, inr, refl, sym, ap, subst, append_assoc, arith}
use Rattle.std.specs.Prelude.{is_some}
use Rattle.std.proofs.lemmas.Bool.{cond-true, cond-false}
use Rattle.std.proofs.lemmas.List.{append-nil}
use Rattle.c62_insn.specs.declared.effect.Target.{Target}
use Rattle.c62_pipe.specs.Flight.{Slot, due}
use Rattle.c62_flight.specs.declared.stop.Stop.{Stop}
use Rattle.c62_exec.specs.declared.underway.Passed.TheVariants.{Over, Broken}
use Rattle.c62_exec.specs.Step.{Way, Gone, gone, clash_in, on_next, turn_in, row_goes}
use Rattle.c62_trace.specs.Event.{Entry}
use Rattle.c62_traced.specs.Row.{landing_log, settling_log, log_behind}

-- so far a front of some events was told, of which these are left
pub record TellsRest {T : Type 0} (tells : T → T → List Entry → Type 0) (old new : T) (left whole : List Entry) : Type
    0 where
  pub log : List Entry
  pub told : tells old new log
  pub rest : log ++ left ≡ whole

module _ {T : Type 0} (tells : T → T → List Entry → Type 0) (nothing : (watch : T) → tells watch watch [])
    (more : (old middle new : T) (told others : List Entry) → tells old middle told → tells middle new others
    → tells old new (told ++ others)) where
  pub rest_first : (old : T) (log : List Entry) → TellsRest tells old old log log
  rest_first old log = record { log = []; told = nothing old; rest = refl }

  pub rest_more : (old middle new : T) (told left all whole : List Entry)
      → TellsRest tells old middle all whole → tells middle new told → all ≡ told ++ left
      → TellsRest tells old new left whole
  rest_more old middle new told left all whole so_far now parts = record {
    log = so_far.log ++ told;
    told = more old middle new so_far.log told so_far.told now;
    rest = append_assoc so_far.log told left ∙ ap (λ log. so_far.log ++ log) (sym parts) ∙ so_far.rest;
  }

  pub rest_over : (old new : T) (left whole : List Entry) → TellsRest tells old new left whole → left ≡ []
      → tells old new whole
  rest_over old new left whole so_far none =
      subst (tells old new)
      (sym (append-nil so_far.log) ∙ ap (λ log. so_far.log ++ log) (sym none) ∙ so_far.rest) so_far.told

-- ---- cycles in which nothing is issued

pub settling_more : (cycle end : ℕ) (slots : List Slot) → cycle < end
    → settling_log cycle (end - cycle) slots
    ≡ landing_log cycle slots ++ settling_log (cycle + 1) (end - (cycle + 1)) slots
settling_more cycle end slots l =
    let e : end - cycle ≡ suc (end - (cycle + 1)) = omega arith in
    ap (λ n. settling_log cycle n slots) e

pub settling_none : (cycle end : ℕ) (slots : List Slot) → end ≤ cycle
    → settling_log cycle (end - cycle) slots ≡ []
settling_none cycle end slots l =
    let e : end - cycle ≡ 0 = omega arith in ap (λ n. settling_log cycle n slots) e

-- ---- a row from one cycle to the next

-- a cycle of it was broken
pub record IsLast (broken : Option Stop) (left cycle : ℕ) (way : Way) (went : Gone) : Type 0 where
  pub goes : went ≡ row_goes broken left cycle way
  pub none : log_behind broken left cycle way ≡ []

pub was_broken : (broken : Option Stop) (left cycle at : ℕ) (stop : Stop) (way now : Way)
    → gone (Broken at stop) now ≡ row_goes broken 0 cycle way → IsLast broken left cycle way (gone (Broken at stop) now)
was_broken None left cycle at stop way now e = absurd (over_not_broken (ap (λ (g : Gone). g.passed) e))
  where
    over_not_broken : Broken at stop ≡ Over (cycle + 1) (turn_in (cycle + 1) way) → ⊥
    over_not_broken f = cc
was_broken (Some other) left cycle at stop way now e = record { goes = e; none = refl }

-- it is over
pub was_over : (broken : Option Stop) (left cycle next : ℕ) (turned : Option Target) (way now : Way)
    → gone (Over next turned) now ≡ row_goes broken 0 cycle way → (left ≡ 0) ⊎ (is_some turned ≡ true)
    → IsLast broken left cycle way (gone (Over next turned) now)
was_over (Some other) left cycle next turned way now e last = absurd (not_broken (ap (λ (g : Gone). g.passed) e))
  where
    not_broken : Over next turned ≡ Broken cycle other → ⊥
    not_broken f = cc
was_over None zero cycle next turned way now e last = record { goes = e; none = refl }
was_over None (suc left) cycle next turned way now e (inl z) = absurd (omega arith)
was_over None (suc left) cycle next turned way now e (inr t) =
    let same : is_some (turn_in (cycle + 1) way) ≡ true = ap is_some
    (sym (turned_is turned next (ap (λ (g : Gone). g.passed) e))) ∙ t in
    record { goes = e ∙ sym (cond-true _ _ _ same); none = cond-true _ _ _ same }
  where
    turned_is : (turned : Option Target) (next : ℕ) → Over next turned ≡ Over (cycle + 1) (turn_in (cycle + 1) way)
        → turned ≡ turn_in (cycle + 1) way
    turned_is turned next f = cc

-- it goes on
pub record IsOn (broken : Option Stop) (left cycle next : ℕ) (way now : Way) : Type 0 where
  pub next_is : next ≡ cycle + 1
  pub goes : row_goes broken left cycle way
      ≡ row_goes (clash_in (due now.flight.slots next)) (left - 1) next now
  pub log : log_behind broken left cycle way
      ≡ landing_log next now.flight.slots
      ++ log_behind (clash_in (due now.flight.slots next)) (left - 1) next now

pub goes_on : (broken : Option Stop) (left cycle next : ℕ) (turned : Option Target) (way now : Way)
    → gone (Over next turned) now ≡ row_goes broken 0 cycle way → (left ≡ 0 → ⊥) → is_some turned ≡ false
    → IsOn broken left cycle next way now
goes_on (Some other) left cycle next turned way now e some none = absurd (not_broken (ap (λ (g : Gone). g.passed) e))
  where
    not_broken : Over next turned ≡ Broken cycle other → ⊥
    not_broken f = cc
goes_on None zero cycle next turned way now e some none = absurd (some refl)
goes_on None (suc left) cycle next turned way now e some none =
    let passed : Over next turned ≡ Over (cycle + 1) (turn_in (cycle + 1) way) = ap (λ (g : Gone). g.passed) e in
    let at : next ≡ cycle + 1 = cc in
    let turn : turned ≡ turn_in (cycle + 1) way = cc in
    let is : now ≡ on_next cycle way = ap (λ (g : Gone). g.way) e in
    let same : is_some (turn_in (cycle + 1) way) ≡ false = ap is_some (sym turn) ∙ none in
    let count : suc left - 1 ≡ left = omega arith in
    record {
      next_is = at;
      goes = cond-false _ _ _ same ∙ rw (at, is, count) refl;
      log = cond-false _ _ _ same ∙ rw (at, is, count) refl;
    }
