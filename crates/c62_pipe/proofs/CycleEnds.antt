-- What is in flight where a cycle ends.
use Rattle.std.proofs.Common.{◌≡◌, ℕ, suc, ◌+◌, ◌*◌, ◌%◌, ◌<◌, ◌≤◌, List, [], ◌∷◌, ◌++◌, length, take, drop, refl, sym}
use Rattle.std.proofs.Common.{◌∙◌, ap, ◌⊎◌, inl, inr, ⊎_elim, arith}
use Rattle.std.specs.Prelude.{fold, slice_set}
use Rattle.std.proofs.lemmas.Bool.{cases_eq}
use Rattle.std.proofs.lemmas.List.{length-set}
use Rattle.c62_serial.specs.State.{Machine, index_of, word_in}
use Rattle.c62_serial.specs.Effect.{Act, act_of}
use Rattle.c62_serial.proofs.RegisterLemmas.{index_within}
use Rattle.c62_packet.specs.declared.placed.Placed.{Placed}
use Rattle.c62_packet.specs.Packed.{listing_position}
use Rattle.c62_meaning.specs.Packet.{word_before, byte_before}
use Rattle.c62_meaning.proofs.Lookup.{In, Contains_from_In}
use Rattle.c62_meaning.proofs.Runs.{the_run, the_run_runs}
use Rattle.c62_pipe.specs.Flight.{Slot, Flight, due, landed, at_end, after_end}
use Rattle.c62_pipe.proofs.Order.{Ascends, ascends, In-take}
use Rattle.c62_pipe.proofs.Slots.{due_of, due_in, due-set_same, due-set_other, act_soon, due_none}
use Rattle.c62_pipe.proofs.Landed.{last_pair, landed-last, word-next, byte-next}
use Rattle.c62_pipe.proofs.Flying.{Flying, position_of, length-stored}

-- ---- a cycle ends

pub length-landing : (slot : Slot) (registers : List ℕ) → length (fold landed registers slot) ≡ length registers
length-landing [] registers = refl
length-landing (x ∷ xs) registers = length-landing xs (landed registers x)
    ∙ length-set registers (index_of x.reg) x.word

-- nothing that was issued lands five cycles later
none_in : (block : List Placed) (opening : Machine) (cycle t : ℕ) (ps : List Placed) → t ≡ cycle + 5
    → ((p : Placed) → In p ps → p.cycle ≤ cycle) → ((p : Placed) → In p ps → In p block)
    → due_in (the_run block opening) t ps ≡ []
none_in block opening cycle t [] e early sub = refl
none_in block opening cycle t (p ∷ ps) e early sub =
    let a : p.cycle ≤ cycle = early p (inl refl) in
    let same = the_run_runs block opening p (Contains_from_In p block (sub p (inl refl))) in
    let here : due_of t p.cycle p.line (the_run block opening p).writes ≡ []
    = ap (λ (x : Act). due_of t p.cycle p.line x.writes) same
    ∙ due_none t p.cycle p.line
    (act_of p.insn opening.base (word_before block opening (the_run block opening) p.cycle)
    (byte_before block opening (the_run block opening) p.cycle)).writes
    (λ w k f. let d : w.0.1 ≤ 4 = act_soon p.insn opening.base
    (word_before block opening (the_run block opening) p.cycle)
    (byte_before block opening (the_run block opening) p.cycle) w k in omega arith) in
    ap (λ slot. slot ++ due_in (the_run block opening) t ps) here
    ∙ none_in block opening cycle t ps e (λ q k. early q (inr k)) (λ q k. sub q (inr k))

pub end_step : (block : List Placed) (opening : Machine) (cycle next upto : ℕ) (flight : Flight) (machine : Machine)
    → Ascends block
    → Flying block opening cycle next upto flight machine → ((p : Placed) → In p (drop next block) → cycle < p.cycle)
    → Flying block opening (cycle + 1) next (8 * (cycle + 1)) (after_end cycle flight) (at_end cycle flight machine)
end_step block opening cycle next upto flight machine ascends h late =
    let e : suc cycle ≡ cycle + 1 = omega arith in
    record {
      within = h.within;
      sound = record {
        registers = length-landing (due flight.slots cycle) machine.registers ∙ h.sound.registers;
        memory = length-stored machine.memory flight.stores h.sound.memory;
        rising = h.sound.rising;
      };
      base = h.base;
      words = λ reg.
          let n : length machine.registers ≡ 32 = h.sound.registers in
          let r : index_of reg < 32 = index_within reg in
          landed-last (index_of reg) (due flight.slots cycle) machine.registers (omega arith)
          ∙ ap (λ slot. last_pair (index_of reg) slot (word_in machine reg))
          (h.flying cycle (omega arith) (omega arith))
          ∙ ap (λ v. last_pair (index_of reg) (due_in (the_run block opening) cycle (take next block)) v) (h.words reg)
          ∙ sym (word-next block opening (the_run block opening) cycle next reg late)
          ∙ ap (λ c. word_before block opening (the_run block opening) c reg) e;
      bytes = λ a.
          h.pending a ∙ sym (byte-next block opening (the_run block opening) cycle next a ascends h.early late)
          ∙ ap (λ c. byte_before block opening (the_run block opening) c a) e;
      pending = h.pending;
      slots = length-set flight.slots (cycle % 5) [] ∙ h.slots;
      flying = λ t from below. flown t from below (cases_eq t (cycle + 5));
      space = λ t from below. ⊎_elim
          {C = 8 * t + length (due (slice_set flight.slots (cycle % 5) []) t) ≤ 8 * (cycle + 1) + 32}
          (λ s. let z : length (due (slice_set flight.slots (cycle % 5) []) t) ≡ 0 = ap length
          (due-set_same flight.slots t cycle [] h.slots (omega arith)) in omega arith)
          (λ ne.
          let z : length (due (slice_set flight.slots (cycle % 5) []) t) ≡ length (due flight.slots t) = ap length
          (due-set_other flight.slots t cycle [] (λ f. ne (omega arith))) in
          let was : 8 * t + length (due flight.slots t) ≤ upto + 32 = h.space t (omega arith) (omega arith) in
          let low : upto ≤ 8 * cycle + 8 = h.low in omega arith)
          (cases_eq t (cycle + 5));
      few = omega arith;
      low = omega arith;
      ahead = λ p k. let a : cycle < p.cycle = late p k in let b : 8 * p.cycle ≤ listing_position p = (position_of p).0
          in omega arith;
      early = λ p k. let a : p.cycle ≤ cycle = h.early p k in omega arith;
      lines = h.lines;
    }
  where
    none_yet : (t : ℕ) (ps : List Placed) → ((p : Placed) → In p ps → In p (take next block)) → t ≡ cycle + 5
        → due_in (the_run block opening) t ps ≡ []
    none_yet t ps sub s = none_in block opening cycle t ps s (λ p k. h.early p (sub p k))
        (λ p k. In-take block next p (sub p k))

    flown : (t : ℕ) → cycle + 1 ≤ t → t < cycle + 1 + 5 → (t ≡ cycle + 5) ⊎ (t ≡ cycle + 5 → ⊥)
        → due (slice_set flight.slots (cycle % 5) []) t ≡ due_in (the_run block opening) t (take next block)
    flown t from below (inl s) = due-set_same flight.slots t cycle [] h.slots (omega arith)
        ∙ sym (none_yet t (take next block) (λ p k. k) s)
    flown t from below (inr ne) = due-set_other flight.slots t cycle [] (λ f. ne (omega arith))
        ∙ h.flying t (omega arith) (omega arith)
