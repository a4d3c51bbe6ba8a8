-- A run comes down: what is in flight lands.
use Rattle.std.proofs.Common.{◌≡◌, ℕ, zero, suc, ◌+◌, ◌-◌, ◌*◌, ◌<◌, ◌≤◌, List, [], ◌∷◌, length, take, Option, Some}
use Rattle.std.proofs.Common.{None, refl, sym, ◌∙◌, ap, subst, ⊎_elim, inl, inr, arith}
use Rattle.std.specs.Prelude.{◌↔◌, ◌⊎◌, Contains, option_map, is_some}
use Rattle.std.specs.Option.{option_or}
use Rattle.std.proofs.lemmas.Bool.{cases_lt, cases_order}
use Rattle.std.proofs.lemmas.List.{take_all}
use Rattle.c62_serial.specs.State.{Machine}
use Rattle.c62_packet.specs.declared.placed.Placed.{Placed}
use Rattle.c62_meaning.specs.Packet.{word_before, byte_before}
use Rattle.c62_meaning.specs.Meaning.{HasFaulted, LeavesState}
use Rattle.c62_meaning.proofs.Lookup.{In}
use Rattle.c62_meaning.proofs.Runs.{the_run, the_run_runs}
use Rattle.c62_meaning.proofs.Faulted.{lines_after, lines_hold}
use Rattle.c62_pipe.specs.Flight.{Flight, Slot, due}
use Rattle.c62_pipe.proofs.Order.{Ascends}
use Rattle.c62_pipe.proofs.Flying.{Flying}
use Rattle.c62_flight.specs.declared.stop.Stop.{Stop}
use Rattle.c62_flight.specs.Issued.{Issued}
use Rattle.c62_flight.specs.Broken.{broken, IsWholeBefore}
use Rattle.c62_flight.proofs.Fronts.{Early}
use Rattle.c62_flight.proofs.Stops.{quiet}
use Rattle.c62_exec.specs.Step.{Way, clash_in, clash_from, ended_cycle, settled}
use Rattle.c62_exec.proofs.Extended.{alone}
use Rattle.c62_exec.proofs.InRow.{ends, broken_in_slot}

module _ (block : List Placed) (opening : Machine) (ascends : Ascends block) where
  -- so many cycles end
  pub lands : (count cycle upto : ℕ) (way : Way) → Flying block opening cycle (length block) upto way.flight way.machine
      → (last : ℕ) × Flying block opening (cycle + count) (length block) last (settled count cycle way).flight
      (settled count cycle way).machine
  lands zero cycle upto way h = (
    upto,
    subst (λ n. Flying block opening n (length block) upto way.flight way.machine)
        (let e : cycle ≡ cycle + 0 = omega arith in e) h,
  )
  lands (suc count) cycle upto way h =
      let r = lands count (cycle + 1) (8 * (cycle + 1)) (ended_cycle cycle way)
      (ends block opening ascends cycle upto way.flight way.machine h) in (
        r.0,
        subst (λ n. Flying block opening n (length block) r.0 (settled count (cycle + 1) (ended_cycle cycle way)).flight
            (settled count (cycle + 1) (ended_cycle cycle way)).machine)
            (let e : cycle + 1 + count ≡ cycle + suc count = omega arith in e) r.1,
      )

  -- what is left then
  pub leaves : (cycle upto : ℕ) (flight : Flight) (machine : Machine)
      → Flying block opening cycle (length block) upto flight machine
      → LeavesState block cycle opening (the_run block opening) machine
  leaves cycle upto flight machine h = record {
    sound = h.sound;
    base = h.base;
    words = h.words;
    bytes = λ a _. h.bytes a;
    faults = λ line.
        subst (λ lines. Contains lines line ↔ (Contains opening.faults line
        ⊎ HasFaulted block (the_run block opening) line))
        (sym (h.lines ∙ ap (λ ps. lines_after (the_run block opening) opening.faults ps)
        (take_all (length block) block (omega arith))))
        (lines_hold (the_run block opening) opening.faults block line);
  }

  -- what the slots of some cycles say of clashes in them
  abbrev pub Finds : ℕ → ℕ → Option (ℕ × Stop) → Type 0
  Finds count cycle None = (t : ℕ) → cycle ≤ t → t < cycle + count → broken (alone opening block) t ≡ None
  Finds count cycle (Some found) =
      (cycle ≤ found.0) × (found.0 < cycle + count) × (broken (alone opening block) found.0 ≡ Some found.1)
      × ((t : ℕ) → cycle ≤ t → t < found.0 → broken (alone opening block) t ≡ None)

  between : (cycle count t : ℕ) → cycle ≤ t → t < cycle + suc count → (cycle ≡ t) ⊎ (cycle + 1 ≤ t)
  between cycle count t a b = elim (cases_order cycle t) [
    | inl e ↦ inl e
    | inr (inl l) ↦ inr (omega arith)
    | inr (inr l) ↦ absurd (omega arith)
  ]

  finds_by : (count cycle : ℕ) (first : Option Stop) (rest : Option (ℕ × Stop))
      → broken (alone opening block) cycle ≡ first → Finds count (cycle + 1) rest
      → Finds (suc count) cycle (option_or (option_map (λ stop. (cycle, stop)) first) rest)
  finds_by count cycle (Some stop) rest e f = (omega arith, omega arith, e, λ t a b. absurd (omega arith))
  finds_by count cycle None None e f = λ t a b. elim (between cycle count t a b) [
    | inl s ↦ ap (λ n. broken (alone opening block) n) (sym s) ∙ e
    | inr l ↦ f t l (omega arith)
  ]
  finds_by count cycle None (Some found) e f =
      let from : cycle + 1 ≤ found.0 = f.0 in
      let below : found.0 < cycle + 1 + count = f.1 in (
        omega arith,
        omega arith,
        f.2,
        λ t a b. elim (between cycle count t a (omega arith)) [
          | inl s ↦ ap (λ n. broken (alone opening block) n) (sym s) ∙ e
          | inr l ↦ f.3 t l b
        ],
      )

  -- behind the last issue the slots tell
  pub finds : (count cycle start upto : ℕ) (flight : Flight) (machine : Machine)
      → Flying block opening start (length block) upto flight machine → Early start block
      → start ≤ cycle → cycle + count ≤ start + 5 → Finds count cycle (clash_from count cycle flight.slots)
  finds zero cycle start upto flight machine h early from to = λ t a b. absurd (omega arith)
  finds (suc count) cycle start upto flight machine h early from to =
      finds_by count cycle (clash_in (due flight.slots cycle)) (clash_from count (cycle + 1) flight.slots)
      (sym (broken_in_slot block opening ascends start upto cycle flight machine h
      (λ p k. let u : p.cycle < start = early p k in omega arith) from (omega arith)))
      (finds count (cycle + 1) start upto flight machine h early (omega arith) (omega arith))

  -- where nothing clashes in four cycles more, nothing does
  pub all_quiet : (end : ℕ) → Early end block → IsWholeBefore (alone opening block) end → Finds 4 end None → (c : ℕ)
      → broken (alone opening block) c ≡ None
  all_quiet end early whole none c =
      ⊎_elim {C = broken (alone opening block) c ≡ None} (λ l. whole c l)
      (λ g. ⊎_elim {C = broken (alone opening block) c ≡ None} (λ l. none c g l)
      (λ l. quiet opening (alone opening block) end c (the_run_runs block opening) early l) (cases_lt c (end + 4)))
      (cases_lt c end)
