-- A row from one cycle to the next.
use Rattle.std.proofs.Common.{◌≡◌, ℕ, zero, suc, ◌+◌, ◌*◌, ◌%◌, ◌<◌, ◌≤◌, Bool, true, false, cond, List, [], ◌∷◌, ◌++◌}
use Rattle.std.proofs.Common.{length, get_or, set, take, drop, Option, Some, None, refl, sym, ◌∙◌, ap, subst, ⊎_elim}
use Rattle.std.proofs.Common.{inl, inr, arith}
use Rattle.std.specs.Prelude.{is_some}
use Rattle.std.proofs.Math.ListN.{drop_of_length-le}
use Rattle.std.proofs.lemmas.Bool.{cases_eq, cases_order, cond-true, cond-false, cond_both, ne_eqb}
use Rattle.std.proofs.lemmas.List.{length-set, get_or-set_other, take_all}
use Rattle.std.proofs.lemmas.Grind.{get_or-set_at}
use Rattle.c62_insn.specs.declared.effect.Target.{Target}
use Rattle.c62_serial.specs.State.{Machine}
use Rattle.c62_packet.specs.declared.placed.Placed.{Placed}
use Rattle.c62_meaning.proofs.Lookup.{In}
use Rattle.c62_meaning.proofs.Runs.{the_run}
use Rattle.c62_pipe.specs.Flight.{Flight, due, at_end, after_end}
use Rattle.c62_pipe.proofs.Order.{Ascends}
use Rattle.c62_pipe.proofs.Slots.{due_in}
use Rattle.c62_pipe.proofs.Flying.{Flying}
use Rattle.c62_pipe.proofs.CycleEnds.{end_step}
use Rattle.c62_flight.specs.declared.stop.Stop.{Stop}
use Rattle.c62_flight.specs.Issued.{first_of, goes_in, turn, over}
use Rattle.c62_flight.specs.Broken.{broken, IsWholeBefore}
use Rattle.c62_flight.proofs.Lists.{first_of-none}
use Rattle.c62_flight.proofs.Fronts.{over_later}
use Rattle.c62_exec.specs.declared.underway.Passed.{Passed}
use Rattle.c62_exec.specs.declared.underway.Passed.TheVariants.{Over, Broken}
use Rattle.c62_exec.specs.Step.{Way, Gone, gone, clash_in, ended_cycle, on_next, turn_in, row_goes}
use Rattle.c62_exec.proofs.Extended.{alone}
use Rattle.c62_exec.proofs.Clashes.{broken_later}

-- Before a cycle ends in which all of these are issued that run: what is in flight is theirs.
pub record InRow (block : List Placed) (opening : Machine) (cycle upto : ℕ) (way : Way) : Type 0 where
  pub flying : Flying block opening cycle (length block) upto way.flight way.machine
  pub size : length way.turns ≡ 6
  pub turns : (t : ℕ) → cycle < t → t ≤ cycle + 6 → get_or way.turns (t % 6) None ≡ turn (alone opening block) t

-- a row is over, and the next one may begin
pub record IsOver (block : List Placed) (opening : Machine) (cycle idle end : ℕ) (turned : Option Target) (way : Way) :
    Type 0 where
  pub over : end ≡ over (alone opening block) cycle idle
  pub goes : turned ≡ turn (alone opening block) end
  pub row : InRow block opening end (8 * end) way
  pub stored : way.flight.stores ≡ []
  pub whole : IsWholeBefore (alone opening block) end

-- a cycle of the row is broken, and has ended
pub record IsBroken (block : List Placed) (opening : Machine) (cycle idle at : ℕ) (stop : Stop) (way : Way) : Type 0
  where
    pub breaks : broken (alone opening block) at ≡ Some stop
    pub whole : IsWholeBefore (alone opening block) at
    pub before : at < over (alone opening block) cycle idle
    pub flying : Flying block opening (at + 1) (length block) (8 * (at + 1)) way.flight way.machine

abbrev pub Went : List Placed → Machine → ℕ → ℕ → Passed → Way → Type 0
Went block opening cycle idle (Over end turned) way = IsOver block opening cycle idle end turned way
Went block opening cycle idle (Broken at stop) way = IsBroken block opening cycle idle at stop way

module _ (block : List Placed) (opening : Machine) (ascends : Ascends block) where
  all : take (length block) block ≡ block
  all = take_all (length block) block (omega arith)

  no_more : (p : Placed) → In p (drop (length block) block) → ⊥
  no_more p k = subst (λ ps. In p ps) (drop_of_length-le block (omega arith)) k

  -- all are issued by the cycle
  pub issued_by : (cycle upto : ℕ) (flight : Flight) (machine : Machine)
      → Flying block opening cycle (length block) upto flight machine → (p : Placed) → In p block → p.cycle ≤ cycle
  issued_by cycle upto flight machine h p k = h.early p (subst (λ ps. In p ps) (sym all) k)

  pub ends : (cycle upto : ℕ) (flight : Flight) (machine : Machine)
      → Flying block opening cycle (length block) upto flight machine
      → Flying block opening (cycle + 1) (length block) (8 * (cycle + 1)) (after_end cycle flight)
      (at_end cycle flight machine)
  ends cycle upto flight machine h = end_step block opening cycle (length block) upto flight machine ascends h
      (λ p k. absurd (no_more p k))

  -- the slot of a cycle holds the writes of all
  pub slot_of_all : (cycle upto t : ℕ) (flight : Flight) (machine : Machine)
      → Flying block opening cycle (length block) upto flight machine
      → cycle ≤ t → t < cycle + 5 → due flight.slots t ≡ due_in (the_run block opening) t block
  slot_of_all cycle upto t flight machine h from below = h.flying t from below
      ∙ ap (λ ps. due_in (the_run block opening) t ps) all

  -- what breaks a cycle behind the issue stands in its slot
  pub broken_in_slot : (cycle upto t : ℕ) (flight : Flight) (machine : Machine)
      → Flying block opening cycle (length block) upto flight machine
      → ((p : Placed) → In p block → p.cycle < t) → cycle ≤ t → t < cycle + 5
      → clash_in (due flight.slots t) ≡ broken (alone opening block) t
  broken_in_slot cycle upto t flight machine h early from below =
      ap clash_in (slot_of_all cycle upto t flight machine h from below)
      ∙ sym (broken_later block opening t (λ p k e. let u : p.cycle < t = early p k in omega arith))

  no_turn : (t : ℕ) → ((p : Placed) → In p block → p.cycle + 6 < t) → turn (alone opening block) t ≡ None
  no_turn t h =
      first_of-none (goes_in (the_run block opening) t) block
      (λ p k. cond-false _ _ _ (ne_eqb _ _ (λ (e : p.cycle + 6 ≡ t). let u : p.cycle + 6 < t = h p k in omega arith)))

  next_cycle : (cycle upto : ℕ) (way : Way) → InRow block opening cycle upto way
      → InRow block opening (cycle + 1) (8 * (cycle + 1)) (on_next cycle way)
  next_cycle cycle upto way h = record {
    flying = ends cycle upto way.flight way.machine h.flying;
    size = length-set way.turns ((cycle + 1) % 6) None ∙ h.size;
    turns = λ t after by. ⊎_elim
        {C = get_or (set way.turns ((cycle + 1) % 6) None) (t % 6) None ≡ turn (alone opening block) t}
        (λ e. get_or-set_at way.turns ((cycle + 1) % 6) (t % 6) None None (omega arith)
        (let s : length way.turns ≡ 6 = h.size in let b : (cycle + 1) % 6 < 6 = omega arith in omega arith)
        ∙ sym (no_turn t (λ p k. let u : p.cycle ≤ cycle = issued_by cycle upto way.flight way.machine h.flying p k in
        omega arith)))
        (λ ne. get_or-set_other way.turns ((cycle + 1) % 6) (t % 6) None None (λ same. ne (omega arith))
        ∙ h.turns t (omega arith) (omega arith))
        (cases_eq t (cycle + 7));
  }

  whole_by : (cycle : ℕ) → IsWholeBefore (alone opening block) cycle → broken (alone opening block) cycle ≡ None
      → IsWholeBefore (alone opening block) (cycle + 1)
  whole_by cycle whole none c l =
      elim (cases_order c cycle) [
        | inl e ↦ ap (λ t. broken (alone opening block) t) e ∙ none
        | inr (inl u) ↦ whole c u
        | inr (inr u) ↦ absurd (omega arith)
      ]

  over_here : (cycle upto : ℕ) (way : Way) (idle : ℕ) → InRow block opening cycle upto way
      → IsWholeBefore (alone opening block) cycle → broken (alone opening block) cycle ≡ None
      → cycle + 1 ≡ over (alone opening block) cycle idle
      → IsOver block opening cycle idle (cycle + 1) (turn_in (cycle + 1) way) (on_next cycle way)
  over_here cycle upto way idle h whole none is = record {
    over = is;
    goes = h.turns (cycle + 1) (omega arith) (omega arith);
    row = next_cycle cycle upto way h;
    stored = refl;
    whole = whole_by cycle whole none;
  }

  further : (cycle idle : ℕ) (passed : Passed) (way : Way)
      → over (alone opening block) cycle (suc idle) ≡ over (alone opening block) (cycle + 1) idle
      → Went block opening (cycle + 1) idle passed way → Went block opening cycle (suc idle) passed way
  further cycle idle (Over end turned) way e w = record {
    over = w.over
        ∙ sym e;
    goes = w.goes;
    row = w.row;
    stored = w.stored;
    whole = w.whole;
  }
  further cycle idle (Broken at stop) way e w = record
      { breaks = w.breaks; whole = w.whole; before = subst (λ n. at < n) (sym e) w.before; flying = w.flying }

  pub breaks_here : (cycle upto idle : ℕ) (stop : Stop) (way : Way)
      → Flying block opening cycle (length block) upto way.flight way.machine
      → IsWholeBefore (alone opening block) cycle
      → broken (alone opening block) cycle ≡ Some stop
      → IsBroken block opening cycle idle cycle stop (ended_cycle cycle way)
  breaks_here cycle upto idle stop way h whole e =
      record {
        breaks = e;
        whole = whole;
        before = over_later (alone opening block) cycle idle;
        flying = ends cycle upto
            way.flight way.machine h;
      }

  -- the rest of a row goes as it should
  pub row_went : (found : Option Stop) (idle cycle upto : ℕ) (way : Way) → InRow block opening cycle upto way
      → IsWholeBefore (alone opening block) cycle
      → broken (alone opening block) cycle ≡ found
      → Went block opening cycle idle (row_goes found idle cycle way).passed (row_goes found idle cycle way).way
  row_went (Some stop) idle cycle upto way h whole e = breaks_here cycle upto idle stop way h.flying whole e
  row_went None zero cycle upto way h whole e = over_here cycle upto way zero h whole e refl
  row_went None (suc idle) cycle upto way h whole e =
      cond_both (is_some (turn_in (cycle + 1) way))
      (gone (Over (cycle + 1) (turn_in (cycle + 1) way)) (on_next cycle way))
      (row_goes (clash_in (due (on_next cycle way).flight.slots (cycle + 1))) idle (cycle + 1) (on_next cycle way))
      (λ (g : Gone). Went block opening cycle (suc idle) g.passed g.way)
      (λ t. over_here cycle upto way (suc idle) h whole e (sym (cond-true _ _ _ (sym same ∙ t))))
      (λ f. further cycle idle
      (row_goes (clash_in (due (on_next cycle way).flight.slots (cycle + 1))) idle (cycle + 1)
      (on_next cycle way)).passed
      (row_goes (clash_in (due (on_next cycle way).flight.slots (cycle + 1))) idle (cycle + 1) (on_next cycle way)).way
      (cond-false _ _ _ (sym same ∙ f))
      (row_went (clash_in (due (on_next cycle way).flight.slots (cycle + 1))) idle (cycle + 1) (8 * (cycle + 1))
      (on_next cycle way) next (whole_by cycle whole e)
      (sym (broken_in_slot (cycle + 1) (8 * (cycle + 1)) (cycle + 1) (on_next cycle way).flight
      (on_next cycle way).machine next.flying
      (λ p k. let u : p.cycle ≤ cycle = issued_by cycle upto way.flight way.machine h.flying p k in omega arith)
      (omega arith) (omega arith)))))
    where
      same : is_some (turn_in (cycle + 1) way) ≡ is_some (turn (alone opening block) (cycle + 1))
      same = ap is_some (h.turns (cycle + 1) (omega arith) (omega arith))

      next : InRow block opening (cycle + 1) (8 * (cycle + 1)) (on_next cycle way)
      next = next_cycle cycle upto way h
