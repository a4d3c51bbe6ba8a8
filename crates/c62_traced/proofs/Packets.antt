-- The events of a block of packets, cycle by cycle.
use Rattle.std.proofs.Common.{◌≡◌, ◌∙◌, ℕ, suc, ◌+◌, ◌*◌, ◌<◌, ◌≤◌, List, [], ◌∷◌, ◌++◌, length}
use Rattle.std.proofs.Common.{get_or, take, drop, map, refl, sym, ap, subst, append_assoc, arith}
use Rattle.std.specs.List.{flat_map}
use Rattle.std.proofs.lemmas.Bool.{cond-true, cond-false, eq-eqb, ne_eqb}
use Rattle.std.proofs.lemmas.List.{append-nil, take_all, take_more, take-append-drop}
use Rattle.std.proofs.lemmas.List.Elements.{All-contains}
use Rattle.std.proofs.lemmas.Grind.{flat_map-append}
use Rattle.c62_rules.specs.Length.{landing_end}
use Rattle.c62_serial.specs.declared.serial.Exit.{Exit}
use Rattle.c62_serial.specs.State.{Machine, word_in}
use Rattle.c62_serial.specs.Effect.{Act}
use Rattle.c62_packet.specs.declared.placed.Placed.{Placed}
use Rattle.c62_packet.specs.Packed.{Packed, IsPacketBlock, issue_of, listing_position}
use Rattle.c62_meaning.specs.Packet.{word_before}
use Rattle.c62_meaning.proofs.Lookup.{In, Contains_from_In}
use Rattle.c62_meaning.proofs.Runs.{the_run, the_run_runs, one_run}
use Rattle.c62_pipe.specs.Chain.{Does}
use Rattle.c62_pipe.specs.Flight.{Flight, due, act_at}
use Rattle.c62_pipe.proofs.Flying.{In-drop, does, position_of}
use Rattle.c62_pipe.proofs.Running.{Running, next_in}
use Rattle.c62_pipe.proofs.Slots.{due_of, due_in}
use Rattle.c62_trace.specs.Event.{Event, Entry, Landed, entries, issued_in, events_of, events_at, landings}
use Rattle.c62_trace.proofs.Events.{due_late, events_same, events_word, flat_none, landings_due}
use Rattle.c62_traced.specs.Trace.{behind, cycle_log, log_of}
use Rattle.c62_traced.specs.Chain.{IsBlockLog}
use Rattle.c62_traced.proofs.Entries.{entries_append, entries_flat}
use Rattle.c62_traced.proofs.Ranges.{range_more, range_same}

module _ (first : ℕ) (block : List Placed) (opening : Machine) where
  -- the events of an instruction in a cycle, where it is issued in it
  abbrev pub insn_log : ℕ → Placed → List Entry
  insn_log cycle p = entries (first + cycle) (issued_in block opening (the_run block opening) cycle p)

  -- those of the first of them
  abbrev pub front_log : (cycle next : ℕ) → List Entry
  front_log cycle next = flat_map (insn_log cycle) (take next block)

  -- those of cycles that are over
  abbrev pub block_log : ℕ → List Entry
  block_log cycle = log_of (behind first) block opening (the_run block opening) cycle

  -- and of the first instructions of the next one
  abbrev pub log_to : (cycle next : ℕ) → List Entry
  log_to cycle next = block_log cycle ++ front_log cycle next

  not_in : (cycle : ℕ) (p : Placed) → (p.cycle ≡ cycle → ⊥) → insn_log cycle p ≡ []
  not_in cycle p other =
      ap (λ (es : List Event). entries (first + cycle) es) (cond-false _ _ _ (ne_eqb _ _ other))

  module _ (cycle next : ℕ) (flight : Flight) (machine : Machine) (exit : Exit) (room : ℕ)
      (running : Running block opening cycle next flight machine exit room) where
    -- an instruction more
    pub issued_more : (p : Placed) → next < length block → get_or block next p ≡ p → p.cycle ≡ cycle
        → log_to cycle next ++ entries (first + cycle) (events_at machine p) ≡ log_to cycle (next + 1)
    issued_more p inside found now =
        append_assoc (block_log cycle) (front_log cycle next) (entries (first + cycle) (events_at machine p))
        ∙ ap (λ told. block_log cycle ++ told)
        (ap (λ told. front_log cycle next ++ told) (mine ∙ sym (append-nil (insn_log cycle p)))
        ∙ sym (flat_map-append (insn_log cycle) (take next block) (p ∷ []))
        ∙ ap (λ ps. flat_map (insn_log cycle) ps) (ap (λ z. take next block ++ z ∷ []) (sym found)
        ∙ sym (take_more block next p inside)))
      where
        mine : entries (first + cycle) (events_at machine p) ≡ insn_log cycle p
        mine =
            ap (λ (es : List Event). entries (first + cycle) es)
            (events_word (word_in machine) (word_before block opening (the_run block opening) cycle)
            (act_at p machine) p
            running.flying.words
            ∙ ap (λ (act : Act). events_of (word_before block opening (the_run block opening) cycle) act p)
            (does block opening cycle next running.upto flight machine p running.flying
            (In-drop block next p (next_in block next p inside found)) now)
            ∙ sym (cond-true _ _ _ (eq-eqb _ _ now)))

    -- a cycle ends, and all that is left is issued later
    module _ (flight' : Flight) (machine' : Machine) (exit' : Exit) (room' : ℕ)
        (on : Running block opening (cycle + 1) next flight' machine' exit' room') where
      later : (q : Placed) → In q (drop next block) → cycle < q.cycle
      later q h =
          let from : 8 * (cycle + 1) + length flight'.stores ≤ on.upto = on.flying.few in
          let at : on.upto ≤ listing_position q = on.flying.ahead q h in
          let below : listing_position q < 8 * q.cycle + 8 = (position_of q).1 in omega arith

      all_issued : front_log cycle next ≡ flat_map (insn_log cycle) block
      all_issued =
          sym (append-nil (front_log cycle next))
          ∙ ap (λ told. front_log cycle next ++ told)
          (sym (flat_none (insn_log cycle) (drop next block)
          (λ q h. not_in cycle q (λ (e : q.cycle ≡ cycle). let l : cycle < q.cycle = later q h in omega arith))))
          ∙ sym (flat_map-append (insn_log cycle) (take next block) (drop next block))
          ∙ ap (λ ps. flat_map (insn_log cycle) ps) (take-append-drop next block)

      all_due : due flight.slots cycle ≡ landings (the_run block opening) cycle block
      all_due =
          running.flying.flying cycle (omega arith) (omega arith)
          ∙ sym (append-nil (due_in (the_run block opening) cycle (take next block)))
          ∙ ap (λ ds. due_in (the_run block opening) cycle (take next block) ++ ds)
          (sym (due_late (the_run block opening) cycle (drop next block) later))
          ∙ sym (flat_map-append (λ (p : Placed). due_of cycle p.cycle p.line (the_run block opening p).writes)
          (take next block) (drop next block))
          ∙ ap (λ ps. due_in (the_run block opening) cycle ps) (take-append-drop next block)
          ∙ sym (landings_due (the_run block opening) cycle block)

      whole_cycle : front_log cycle next ++ entries (first + cycle) (map Landed (due flight.slots cycle))
          ≡ cycle_log (behind first) block opening (the_run block opening) cycle
      whole_cycle =
          ap (λ told. told ++ entries (first + cycle) (map Landed (due flight.slots cycle)))
          (all_issued
          ∙ sym (entries_flat (first + cycle) (issued_in block opening (the_run block opening) cycle) block))
          ∙ ap (λ slot. entries (first + cycle)
          (flat_map (issued_in block opening (the_run block opening) cycle) block)
          ++ entries (first + cycle) (map Landed slot)) all_due
          ∙ sym (entries_append (first + cycle)
          (flat_map (issued_in block opening (the_run block opening) cycle) block)
          (map Landed (landings (the_run block opening) cycle block)))

      one_more : block_log cycle ++ (front_log cycle next ++ entries (first + cycle)
          (map Landed (due flight.slots cycle)))
          ≡ block_log (cycle + 1)
      one_more =
          ap (λ told. block_log cycle ++ told)
          (whole_cycle
          ∙ sym (append-nil (cycle_log (behind first) block opening (the_run block opening) cycle)))
          ∙ sym (range_more (cycle_log (behind first) block opening (the_run block opening)) cycle 1)

      -- of the next one nothing is told yet
      none_yet : front_log (cycle + 1) next ≡ []
      none_yet =
          flat_none (insn_log (cycle + 1)) (take next block)
          (λ p h. not_in (cycle + 1) p
          (λ (e : p.cycle ≡ cycle + 1). let u : p.cycle ≤ cycle = running.flying.early p h in omega arith))

      pub cycle_over : log_to cycle next ++ entries (first + cycle) (map Landed (due flight.slots cycle))
          ≡ log_to (cycle + 1) next
      cycle_over =
          append_assoc (block_log cycle) (front_log cycle next)
          (entries (first + cycle) (map Landed (due flight.slots cycle)))
          ∙ one_more
          ∙ sym (append-nil (block_log (cycle + 1)))
          ∙ ap (λ told. block_log (cycle + 1) ++ told) (sym none_yet)

pub log_begins : (first : ℕ) (block : List Placed) (opening : Machine) → log_to first block opening 0 0 ≡ []
log_begins first block opening = refl

-- when it is over all was told
pub block_told : (first : ℕ) (block : Packed) (opening final : Machine) (exit : Exit) (cycle : ℕ)
    → IsPacketBlock block → Does block opening final exit → cycle ≡ block.cycles
    → IsBlockLog block first opening final exit (log_to first block.placed opening cycle (length block.placed))
block_told first block opening final exit cycle is does over = record {
  does = does;
  is =
      ap (λ told. block_log first block.placed opening cycle ++ told) left
      ∙ append-nil (block_log first block.placed opening cycle)
      ∙ ap (λ n. block_log first block.placed opening n) over
      ∙ range_same
      (cycle_log (behind first) block.placed opening (the_run block.placed opening))
      (cycle_log (behind first) block.placed opening does.did) 0 block.cycles
      (λ t from to. ap (λ (es : List Event). behind first t es)
      (events_same opening t block.placed does.did (the_run block.placed opening)
      (λ p h. one_run block.placed opening (the_run block.placed opening) does.did
      (the_run_runs block.placed opening) does.run (suc p.cycle) p h (omega arith))));
}
  where
    left : front_log first block.placed opening cycle (length block.placed) ≡ []
    left =
        flat_none (insn_log first block.placed opening cycle) (take (length block.placed) block.placed)
        (λ p h. not_in first block.placed opening cycle p
        (λ (e : p.cycle ≡ cycle).
        let end : landing_end (issue_of p) ≤ block.cycles = All-contains
        (λ (q : Placed). landing_end (issue_of q) ≤ block.cycles) block.placed p is.drained
        (Contains_from_In p block.placed
        (subst (λ ps. In p ps) (take_all (length block.placed) block.placed (omega arith)) h)) in
        omega arith))
