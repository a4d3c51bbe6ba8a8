-- What is told of cycles in which a machine runs are the events of what was issued.
use Rattle.std.proofs.Common.{◌≡◌, ◌∙◌, ℕ, zero, suc, ◌+◌, ◌*◌, ◌<◌, ◌≤◌, Bool, true, false, cond, List, [], ◌∷◌, ◌++◌}
use Rattle.std.proofs.Common.{length, map, Option, Some, None, refl, sym, ap, subst, inl, inr, append_assoc}
use Rattle.std.proofs.Common.{length-append, arith}
use Rattle.std.proofs.lemmas.List.{append-nil, length-map}
use Rattle.std.specs.Prelude.{is_some}
use Rattle.std.specs.List.{flat_map, range_with_len}
use Rattle.std.specs.List.Sorted.{IsStrictlyIncreasing}
use Rattle.c62_op.specs.Units.{index_of as unit_index}
use Rattle.c62_serial.specs.State.{Machine, word_in}
use Rattle.c62_serial.specs.Effect.{Act, act_of}
use Rattle.c62_packet.specs.declared.placed.Placed.{Placed}
use Rattle.c62_meaning.specs.Packet.{Did, word_before, byte_before}
use Rattle.c62_meaning.proofs.Lookup.{In, Contains_from_In, In-append_cases, In-append_right}
use Rattle.c62_meaning.proofs.Runs.{the_run, the_run_runs}
use Rattle.c62_pipe.specs.declared.slot.Due.{Due}
use Rattle.c62_pipe.specs.Flight.{Flight, due}
use Rattle.c62_pipe.proofs.Order.{Ascends}
use Rattle.c62_pipe.proofs.Slots.{due_of, due_in, due_none, act_soon}
use Rattle.c62_pipe.proofs.Flying.{Flying, does}
use Rattle.c62_flight.specs.declared.stop.Stop.{Stop}
use Rattle.c62_flight.specs.Issued.{issue_in}
use Rattle.c62_flight.proofs.Fronts.{Early, Late}
use Rattle.c62_exec.specs.declared.underway.Passed.{Passed}
use Rattle.c62_exec.specs.declared.underway.Passed.TheVariants.{Over, Broken}
use Rattle.c62_exec.specs.declared.taken.Taken.TheVariants.{Nothing}
use Rattle.c62_exec.specs.Step.{Way, Issuing, gone, issuing, issue_all, breach, clash_in, on_way, on_next, turn_in}
use Rattle.c62_exec.specs.Step.{with_turn, row_goes, row_passes}
use Rattle.c62_exec.proofs.Extended.{did_same, extended}
use Rattle.c62_exec.proofs.InRow.{ends, slot_of_all}
use Rattle.c62_exec.proofs.RowBegins.{Standing, row_in, all_of_row, both_ascend}
use Rattle.c62_trace.specs.Event.{Event, Entry, Landed, entries, events_of, events_at}
use Rattle.c62_trace.proofs.Events.{flat_none, events_word, events_front, events_late, events_packet}
use Rattle.c62_traced.specs.Trace.{cycle_log, log_from, log_of}
use Rattle.c62_traced.specs.Row.{packet_log, landing_log, settling_log, log_behind, row_log}
use Rattle.c62_traced.proofs.Entries.{entries_append, entries_flat}
use Rattle.c62_traced.proofs.Ranges.{range_more, range_none, range_same}
use Rattle.c62_traced.proofs.Quiet.{landed, late_log}

-- ---- the cycles of a row behind its first

-- how many there are
abbrev pub behind : Option Stop → ℕ → ℕ → Way → ℕ
behind (Some stop) idle cycle way = 0
behind None zero cycle way = 0
behind None (suc idle) cycle way = cond (is_some (turn_in (cycle + 1) way)) 0
    (suc (behind (clash_in (due (on_next cycle way).flight.slots (cycle + 1))) idle (cycle + 1) (on_next cycle way)))

-- the cycle behind the last that was told
abbrev pub told_to : Passed → ℕ
told_to (Over end turned) = end
told_to (Broken at stop) = at + 1

pub told_is : (broken : Option Stop) (idle cycle : ℕ) (way : Way)
    → told_to (row_goes broken idle cycle way).passed ≡ cycle + 1 + behind broken idle cycle way
told_is (Some stop) idle cycle way = omega arith
told_is None zero cycle way = omega arith
told_is None (suc idle) cycle way = by_test (is_some (turn_in (cycle + 1) way))
    (told_is (clash_in (due (on_next cycle way).flight.slots (cycle + 1))) idle (cycle + 1) (on_next cycle way))
  where
    by_test : (b : Bool)
        → told_to (row_goes (clash_in (due (on_next cycle way).flight.slots (cycle + 1))) idle (cycle + 1)
        (on_next cycle way)).passed
        ≡ cycle + 1 + 1
        + behind (clash_in (due (on_next cycle way).flight.slots (cycle + 1))) idle (cycle + 1) (on_next cycle way)
        → told_to (cond b (gone (Over (cycle + 1) (turn_in (cycle + 1) way)) (on_next cycle way))
        (row_goes (clash_in (due (on_next cycle way).flight.slots (cycle + 1))) idle (cycle + 1)
        (on_next cycle way))).passed
        ≡ cycle + 1 + cond b 0
        (suc (behind (clash_in (due (on_next cycle way).flight.slots (cycle + 1))) idle (cycle + 1)
        (on_next cycle way)))
    by_test true h = omega arith
    by_test false h = h ∙ (let e : (n : ℕ) → cycle + 1 + 1 + n ≡ cycle + 1 + suc n = λ n. omega arith in e
        (behind (clash_in (due (on_next cycle way).flight.slots (cycle + 1))) idle (cycle + 1) (on_next cycle way)))

pub behind_log : (opening : Machine) (block : List Placed) (ascends : Ascends block)
    (broken : Option Stop) (idle cycle upto : ℕ) (way : Way)
    → Flying block opening cycle (length block) upto way.flight way.machine
    → log_behind broken idle cycle way
    ≡ flat_map (λ t. landed t (due_in (the_run block opening) t block))
    (range_with_len (cycle + 1) (behind broken idle cycle way))
behind_log opening block ascends (Some stop) idle cycle upto way h = refl
behind_log opening block ascends None zero cycle upto way h = refl
behind_log opening block ascends None (suc idle) cycle upto way h =
    by_test (is_some (turn_in (cycle + 1) way))
    (behind_log opening block ascends (clash_in (due (on_next cycle way).flight.slots (cycle + 1))) idle (cycle + 1)
    (8 * (cycle + 1)) (on_next cycle way) next)
  where
    next : Flying block opening (cycle + 1) (length block) (8 * (cycle + 1)) (on_next cycle way).flight
        (on_next cycle way).machine
    next = ends block opening ascends cycle upto way.flight way.machine h

    told : ℕ → List Entry
    told t = landed t (due_in (the_run block opening) t block)

    by_test : (b : Bool)
        → log_behind (clash_in (due (on_next cycle way).flight.slots (cycle + 1))) idle (cycle + 1)
        (on_next cycle way)
        ≡ flat_map (λ t. landed t (due_in (the_run block opening) t block)) (range_with_len (cycle + 1 + 1)
        (behind (clash_in (due (on_next cycle way).flight.slots (cycle + 1))) idle (cycle + 1) (on_next cycle way)))
        → cond b [] (landing_log (cycle + 1) (on_next cycle way).flight.slots
        ++ log_behind (clash_in (due (on_next cycle way).flight.slots (cycle + 1))) idle (cycle + 1)
        (on_next cycle way))
        ≡ flat_map (λ t. landed t (due_in (the_run block opening) t block)) (range_with_len (cycle + 1)
        (cond b 0
        (suc (behind (clash_in (due (on_next cycle way).flight.slots (cycle + 1))) idle (cycle + 1)
        (on_next cycle way)))))
    by_test true rest = refl
    by_test false rest =
        ap (λ told. told ++ log_behind (clash_in (due (on_next cycle way).flight.slots (cycle + 1))) idle
        (cycle + 1) (on_next cycle way))
        (ap (λ slot. landed (cycle + 1) slot)
        (slot_of_all block opening ascends (cycle + 1) (8 * (cycle + 1)) (cycle + 1) (on_next cycle way).flight
        (on_next cycle way).machine next (omega arith) (omega arith)))
        ∙ ap (λ told. landed (cycle + 1) (due_in (the_run block opening) (cycle + 1) block) ++ told) rest

-- ---- a row

module _ (opening : Machine) (block : List Placed) (cycle : ℕ) (way : Way) (insns : List Placed)
    (standing : Standing block opening cycle way)
    (rises : IsStrictlyIncreasing (map (λ (p : Placed). unit_index p.unit) insns)) where
  late : Late cycle (map (issue_in cycle) insns)
  late p h = let e : p.cycle ≡ cycle = row_in cycle insns p h in omega arith

  by_then : (p : Placed) → In p (block ++ map (issue_in cycle) insns) → p.cycle ≤ cycle
  by_then p h = elim (In-append_cases p block (map (issue_in cycle) insns) h) [
    | inl k ↦ (let u : p.cycle < cycle = standing.early p k in omega arith)
    | inr k ↦ (let e : p.cycle ≡ cycle = row_in cycle insns p k in omega arith)
  ]

  before : Flying (block ++ map (issue_in cycle) insns) opening cycle (length block) (8 * cycle) way.flight way.machine
  before = extended opening cycle block (map (issue_in cycle) insns) standing.early late way.flight way.machine
      standing.row.flying

  -- an instruction finds the machine as it is
  finds : (p : Placed) → In (issue_in cycle p) (map (issue_in cycle) insns)
      → entries cycle
      (events_of (word_before (block ++ map (issue_in cycle) insns) opening
      (the_run (block ++ map (issue_in cycle) insns) opening) cycle)
      (the_run (block ++ map (issue_in cycle) insns) opening (issue_in cycle p)) (issue_in cycle p))
      ≡ entries cycle (events_at way.machine p)
  finds p h =
      ap (λ (es : List Event). entries cycle es)
      (events_word
      (word_before (block ++ map (issue_in cycle) insns) opening
      (the_run (block ++ map (issue_in cycle) insns) opening) cycle) (word_in way.machine)
      (the_run (block ++ map (issue_in cycle) insns) opening (issue_in cycle p)) p (λ reg. sym (before.words reg))
      ∙ ap (λ (act : Act). events_of (word_in way.machine) act p)
      (sym (does (block ++ map (issue_in cycle) insns) opening cycle (length block) (8 * cycle) way.flight way.machine
      (issue_in cycle p) before (In-append_right (issue_in cycle p) block (map (issue_in cycle) insns) h) refl)))

  all_find : (ps : List Placed)
      → ((p : Placed) → In p ps → In (issue_in cycle p) (map (issue_in cycle) insns))
      → flat_map (λ (p : Placed). entries cycle
      (events_of (word_before (block ++ map (issue_in cycle) insns) opening
      (the_run (block ++ map (issue_in cycle) insns) opening) cycle)
      (the_run (block ++ map (issue_in cycle) insns) opening p) p)) (map (issue_in cycle) ps)
      ≡ packet_log way.machine cycle ps
  all_find [] inside = refl
  all_find (p ∷ ps) inside =
      ap (λ told. told ++ flat_map (λ (p : Placed). entries cycle
      (events_of (word_before (block ++ map (issue_in cycle) insns) opening
      (the_run (block ++ map (issue_in cycle) insns) opening) cycle)
      (the_run (block ++ map (issue_in cycle) insns) opening p) p)) (map (issue_in cycle) ps))
      (finds p (inside p (inl refl)))
      ∙ ap (λ told. entries cycle (events_at way.machine p) ++ told)
      (all_find ps (λ q k. inside q (inr k)))

  in_map : (p : Placed) (ps : List Placed) → In p ps → In (issue_in cycle p) (map (issue_in cycle) ps)
  in_map p [] h = absurd h
  in_map p (q ∷ ps) (inl e) = inl (ap (issue_in cycle) e)
  in_map p (q ∷ ps) (inr h) = inr (in_map p ps h)

  abbrev after : Issuing
  after = issue_all cycle (issuing way.flight way.machine Nothing) insns

  abbrev upto : ℕ
  upto = (all_of_row block opening cycle way insns standing rises).upto

  in_flight : Flying (block ++ map (issue_in cycle) insns) opening cycle (length (block ++ map (issue_in cycle) insns))
      upto after.flight after.machine
  in_flight =
      subst (λ n. Flying (block ++ map (issue_in cycle) insns) opening cycle n upto after.flight after.machine)
      (sym (length-append block (map (issue_in cycle) insns)
      ∙ ap (λ n. length block + n) (length-map insns (issue_in cycle))))
      (all_of_row block opening cycle way insns standing rises).flying

  -- the cycle of its issue
  first_log : packet_log way.machine cycle insns ++ landing_log cycle after.flight.slots
      ≡ cycle_log entries (block ++ map (issue_in cycle) insns) opening
      (the_run (block ++ map (issue_in cycle) insns) opening) cycle
  first_log =
      ap (λ told. told ++ landing_log cycle after.flight.slots)
      (sym (all_find insns (λ p h. in_map p insns h))
      ∙ sym (entries_flat cycle
      (λ (p : Placed). events_of (word_before (block ++ map (issue_in cycle) insns) opening
      (the_run (block ++ map (issue_in cycle) insns) opening) cycle)
      (the_run (block ++ map (issue_in cycle) insns) opening p) p) (map (issue_in cycle) insns)))
      ∙ ap (λ told. entries cycle (flat_map
      (λ (p : Placed). events_of (word_before (block ++ map (issue_in cycle) insns) opening
      (the_run (block ++ map (issue_in cycle) insns) opening) cycle)
      (the_run (block ++ map (issue_in cycle) insns) opening p) p) (map (issue_in cycle) insns)) ++ told)
      (ap (λ slot. landed cycle slot)
      (slot_of_all (block ++ map (issue_in cycle) insns) opening
      (both_ascend block opening cycle way insns standing rises) cycle upto cycle after.flight after.machine in_flight
      (omega arith) (omega arith)))
      ∙ sym (entries_append cycle _ _)
      ∙ ap (λ (es : List Event). entries cycle es)
      (sym (events_packet opening cycle block (map (issue_in cycle) insns)
      (the_run (block ++ map (issue_in cycle) insns) opening) standing.early (λ p h. row_in cycle insns p h)))

  -- those of the whole row, of which so many idle cycles follow
  pub whole_row : (idle : ℕ)
      → log_of entries block opening (the_run block opening) cycle
      ++ row_log insns idle cycle way
      ≡ log_of entries (block ++ map (issue_in cycle) insns) opening
      (the_run (block ++ map (issue_in cycle) insns) opening) (told_to (row_passes insns idle cycle way).passed)
  whole_row idle =
      let way' : Way = on_way after.flight (with_turn cycle after.taken way.turns) after.machine in
      let broken : Option Stop = breach after.taken (due after.flight.slots cycle) in
      let n : ℕ = behind (breach after.taken (due after.flight.slots cycle)) idle cycle
      (on_way after.flight (with_turn cycle after.taken way.turns) after.machine) in
      let f : ℕ → List Entry = cycle_log entries (block ++ map (issue_in cycle) insns) opening
      (the_run (block ++ map (issue_in cycle) insns) opening) in
      let same : log_of entries block opening (the_run block opening) cycle
      ≡ log_of entries (block ++ map (issue_in cycle) insns) opening
      (the_run (block ++ map (issue_in cycle) insns) opening) cycle =
      range_same (cycle_log entries block opening (the_run block opening))
      (cycle_log entries (block ++ map (issue_in cycle) insns) opening
      (the_run (block ++ map (issue_in cycle) insns) opening)) 0 cycle
      (λ t from to. ap (λ (es : List Event). entries t es)
      (sym (events_front opening t block (map (issue_in cycle) insns) (the_run block opening)
      (the_run (block ++ map (issue_in cycle) insns) opening)
      (did_same opening cycle block (map (issue_in cycle) insns) standing.early late)
      (λ p h. let e : p.cycle ≡ cycle = row_in cycle insns p h in omega arith)))) in
      let rest : log_behind broken idle cycle way'
      ≡ flat_map (cycle_log entries (block ++ map (issue_in cycle) insns) opening
      (the_run (block ++ map (issue_in cycle) insns) opening)) (range_with_len (cycle + 1) n) =
      behind_log opening (block ++ map (issue_in cycle) insns)
      (both_ascend block opening cycle way insns standing rises) broken idle cycle upto way' in_flight
      ∙ range_same (λ t. landed t (due_in (the_run (block ++ map (issue_in cycle) insns) opening) t
      (block ++ map (issue_in cycle) insns)))
      (cycle_log entries (block ++ map (issue_in cycle) insns) opening
      (the_run (block ++ map (issue_in cycle) insns) opening)) (cycle + 1) n
      (λ t from to. sym (late_log opening (block ++ map (issue_in cycle) insns)
      (the_run (block ++ map (issue_in cycle) insns) opening) t
      (λ p h. let u : p.cycle ≤ cycle = by_then p h in omega arith))) in
      let count : told_to (row_passes insns idle cycle way).passed ≡ cycle + 1 + n = told_is broken idle cycle way' in
      let sum : cycle + 1 + n ≡ cycle + suc n = omega arith in
      ap (λ told. told ++ row_log insns idle cycle way) same
      ∙ ap (λ told. log_of entries (block ++ map (issue_in cycle) insns) opening
      (the_run (block ++ map (issue_in cycle) insns) opening) cycle ++ told)
      (sym (append_assoc (packet_log way.machine cycle insns) (landing_log cycle after.flight.slots)
      (log_behind broken idle cycle way'))
      ∙ ap (λ told. told ++ log_behind broken idle cycle way') first_log
      ∙ ap (λ told. f cycle ++ told) rest)
      ∙ sym (range_more f cycle (suc n))
      ∙ ap (λ k. flat_map f (range_with_len 0 k)) (sym sum ∙ sym count)
