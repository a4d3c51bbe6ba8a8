-- Instructions that are issued from a cycle on, behind those that are in flight.
use Rattle.std.proofs.Common.{◌≡◌, ℕ, suc, ◌+◌, ◌*◌, ◌<◌, ◌≤◌, List, [], ◌∷◌, ◌++◌, length, length-append, get_or, take}
use Rattle.std.proofs.Common.{drop, map, refl, sym, ◌∙◌, ap, subst, inl, inr, arith}
use Rattle.std.specs.Prelude.{fold}
use Rattle.std.specs.List.{flat_map}
use Rattle.std.proofs.Math.Seq.{take-append_seam, drop-append_seam}
use Rattle.std.proofs.lemmas.List.{append-nil, take_all}
use Rattle.std.proofs.lemmas.Grind.{flat_map-append}
use Rattle.c62_op.specs.declared.register.Reg.{Reg}
use Rattle.c62_op.specs.Units.{index_of as unit_index}
use Rattle.c62_serial.specs.State.{Machine, index_of, word_in, byte_in}
use Rattle.c62_serial.specs.Faults.{after_fault}
use Rattle.c62_serial.specs.Effect.{Act, is_fault}
use Rattle.c62_packet.specs.declared.placed.Placed.{Placed}
use Rattle.c62_packet.specs.Packed.{listing_position}
use Rattle.c62_meaning.specs.Landing.{Landing, latest, value_or}
use Rattle.c62_meaning.specs.Packet.{Did, register_landings, memory_landings, access_landings, access_time, word_before}
use Rattle.c62_meaning.specs.Packet.{byte_before}
use Rattle.c62_meaning.proofs.Lookup.{In, from_In-flat_map, latest-append, latest-late, last_value}
use Rattle.c62_meaning.proofs.Landings.{from_In-writes, from_In-access}
use Rattle.c62_meaning.proofs.Runs.{the_run, the_run_runs, one_run, same_words, same_bytes}
use Rattle.c62_meaning.proofs.Faulted.{lines_after}
use Rattle.c62_pipe.specs.Flight.{Flight, due, stored}
use Rattle.c62_pipe.proofs.Slots.{due_of, due_in}
use Rattle.c62_pipe.proofs.Flying.{Flying, position_of}
use Rattle.c62_flight.specs.Issued.{Issued}
use Rattle.c62_flight.proofs.Fronts.{Late, Early, run_of_front, AreSameUntil, same_until}

flat_same : {X : Type 0} (f g : Placed → List X) (ps : List Placed) → ((p : Placed) → In p ps → f p ≡ g p)
    → flat_map f ps ≡ flat_map g ps
flat_same f g [] h = refl
flat_same f g (p ∷ ps) h = ap (λ xs. xs ++ flat_map f ps) (h p (inl refl))
    ∙ ap (λ xs. g p ++ xs) (flat_same f g ps (λ q k. h q (inr k)))

lines_same : (did did' : Did) (lines : List ℕ) (ps : List Placed) → ((p : Placed) → In p ps → did p ≡ did' p)
    → lines_after did lines ps ≡ lines_after did' lines ps
lines_same did did' lines [] h = refl
lines_same did did' lines (p ∷ ps) h =
    ap (λ (a : Act). lines_after did (after_fault lines p.line (is_fault a.access)) ps) (h p (inl refl))
    ∙ lines_same did did' (after_fault lines p.line (is_fault (did' p).access)) ps (λ q k. h q (inr k))

-- landings behind do not count before they land
latest_front : (cell t : ℕ) (f : Placed → List Landing) (ps qs : List Placed)
    → ((w : Landing) → In w (flat_map f qs) → t ≤ w.time)
    → latest cell t (flat_map f (ps ++ qs)) ≡ latest cell t (flat_map f ps)
latest_front cell t f ps qs h =
    ap (λ ls. latest cell t ls) (flat_map-append f ps qs)
    ∙ latest-append cell t (flat_map f ps) (flat_map f qs) []
    (ap (λ ls. latest cell t ls) (sym (append-nil (flat_map f qs))) ∙ latest-late cell t (flat_map f qs) [] h)
    ∙ ap (λ ls. latest cell t ls) (append-nil (flat_map f ps))

-- the instructions of a list, and what they do when nothing else is issued
abbrev pub alone : Machine → List Placed → Issued
alone opening ps = record { placed = ps; did = the_run ps opening }

module _ (opening : Machine) (cycle : ℕ) (block new : List Placed) (early : Early cycle block) (late : Late cycle new)
  where
    pub did_same : (p : Placed) → In p block → the_run (block ++ new) opening p ≡ the_run block opening p
    did_same p h =
        one_run block opening (the_run (block ++ new) opening) (the_run block opening)
        (run_of_front cycle block new opening (the_run (block ++ new) opening) early late
        (the_run_runs (block ++ new) opening)) (the_run_runs block opening) (suc p.cycle) p h (omega arith)

    -- until then both issue the same
    pub alike : AreSameUntil cycle (alone opening block) (alone opening (block ++ new))
    alike =
        same_until opening cycle cycle block [] new (alone opening block) (alone opening (block ++ new)) early
        (λ p h. absurd h) late (λ p h. absurd h) late
        (sym (append-nil block)) refl (the_run_runs block opening) (the_run_runs (block ++ new) opening)

    words_same : (reg : Reg)
        → word_before (block ++ new) opening (the_run (block ++ new) opening) cycle reg ≡ word_before block opening
        (the_run block opening) cycle reg
    words_same reg =
        ap (λ o. value_or o (word_in opening reg))
        (latest_front (index_of reg) cycle (register_landings (the_run (block ++ new) opening)) block new (λ w h.
        let r = from_In-flat_map (register_landings (the_run (block ++ new) opening)) w new h in
        let s = from_In-writes r.0.cycle (the_run (block ++ new) opening r.0).writes w r.2 in
        let from : cycle ≤ r.0.cycle = late r.0 r.1 in
        let at : w.time ≡ r.0.cycle + s.0.0.1 = s.3 in omega arith))
        ∙ same_words block opening (the_run (block ++ new) opening) (the_run block opening) cycle reg
        (λ p h l. did_same p h)

    bytes_same : (a : ℕ)
        → byte_before (block ++ new) opening (the_run (block ++ new) opening) cycle a
        ≡ byte_before block opening (the_run block opening) cycle a
    bytes_same a =
        ap (λ o. value_or o (byte_in opening a))
        (latest_front a (8 * cycle) (memory_landings (the_run (block ++ new) opening)) block new (λ w h.
        let r = from_In-flat_map (memory_landings (the_run (block ++ new) opening)) w new h in
        let from : cycle ≤ r.0.cycle = late r.0 r.1 in
        let at : w.time ≡ 8 * r.0.cycle + unit_index r.0.unit =
        (from_In-access (access_time r.0) (the_run (block ++ new) opening r.0).access w r.2).at in omega arith))
        ∙ same_bytes block opening (the_run (block ++ new) opening) (the_run block opening) cycle a
        (λ p h l. did_same p h)

    -- what is in flight stays so
    pub extended : (flight : Flight) (machine : Machine)
        → Flying block opening cycle (length block) (8 * cycle) flight machine
        → Flying (block ++ new) opening cycle (length block) (8 * cycle) flight machine
    extended flight machine h =
        let all : take (length block) block ≡ block = take_all (length block) block (omega arith) in
        let front : take (length block) (block ++ new) ≡ block = take-append_seam block new in
        let behind : drop (length block) (block ++ new) ≡ new = drop-append_seam block new in
        record {
          within = omega (arith, length-append block new);
          sound = h.sound;
          base = h.base;
          words = λ reg. h.words reg ∙ sym (words_same reg);
          bytes = λ a. h.bytes a ∙ sym (bytes_same a);
          pending = λ a.
              h.pending a
              ∙ ap (λ ps. last_value a (flat_map (memory_landings (the_run block opening)) ps) (byte_in opening a)) all
              ∙ ap (λ ls. last_value a ls (byte_in opening a))
              (sym (flat_same (memory_landings (the_run (block ++ new) opening))
              (memory_landings (the_run block opening)) block
              (λ p k. ap (λ (x : Act). access_landings (access_time p) x.access) (did_same p k))))
              ∙ ap (λ ps. last_value a (flat_map (memory_landings (the_run (block ++ new) opening)) ps)
              (byte_in opening a)) (sym front);
          slots = h.slots;
          flying = λ t a b.
              h.flying t a b
              ∙ ap (λ ps. due_in (the_run block opening) t ps) all
              ∙ sym (flat_same (λ p. due_of t p.cycle p.line (the_run (block ++ new) opening p).writes)
              (λ p. due_of t p.cycle p.line (the_run block opening p).writes) block
              (λ p k. ap (λ (x : Act). due_of t p.cycle p.line x.writes) (did_same p k)))
              ∙ ap (λ ps. due_in (the_run (block ++ new) opening) t ps) (sym front);
          space = h.space;
          few = h.few;
          low = h.low;
          ahead = λ p k.
              let inside : In p new = subst (λ ps. In p ps) behind k in
              let from : cycle ≤ p.cycle = late p inside in
              let at : 8 * p.cycle ≤ listing_position p = (position_of p).0 in omega arith;
          early = λ p k. let u : p.cycle < cycle = early p (subst (λ ps. In p ps) front k) in omega arith;
          lines =
              h.lines
              ∙ ap (λ ps. lines_after (the_run block opening) opening.faults ps) all
              ∙ sym (lines_same (the_run (block ++ new) opening) (the_run block opening) opening.faults block did_same)
              ∙ ap (λ ps. lines_after (the_run (block ++ new) opening) opening.faults ps) (sym front);
        }
