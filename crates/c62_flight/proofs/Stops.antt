-- How a flight stops where it is broken, and that it stops at all.
use Rattle.std.proofs.Common.{◌≡◌, ℕ, zero, suc, ◌+◌, ◌<◌, ◌≤◌, List, [], ◌∷◌, Option, Some, None, refl, ◌∙◌, ap, subst}
use Rattle.std.proofs.Common.{◌⊎◌, inl, inr, ⊎_elim, arith}
use Rattle.std.specs.Prelude.{is_some, min, Contains}
use Rattle.std.specs.Option.{option_or}
use Rattle.std.proofs.lemmas.Bool.{cases_order, cond-false, and_left, ne_eqb}
use Rattle.c62_op.specs.declared.register.Reg.{Reg}
use Rattle.c62_insn.specs.Insn.{register_writes}
use Rattle.c62_insn.proofs.InsnLemmas.{writes_delay}
use Rattle.c62_serial.specs.State.{Machine}
use Rattle.c62_serial.specs.Effect.{Act, act_of}
use Rattle.c62_packet.specs.declared.placed.Placed.{Placed}
use Rattle.c62_meaning.specs.Packet.{Did, word_before, byte_before, IsRun}
use Rattle.c62_meaning.proofs.Lookup.{In, Contains_from_In}
use Rattle.c62_meaning.proofs.Landings.{act_writes}
use Rattle.c62_flight.specs.declared.stop.Stop.{Stop}
use Rattle.c62_flight.specs.Text.{Text, Position}
use Rattle.c62_flight.specs.Issued.{Issued}
use Rattle.c62_flight.specs.Broken.{has_branched, two_branches, met_by, clash, broken, IsWholeBefore}
use Rattle.c62_flight.specs.Flight.{ended, Stops}
use Rattle.c62_flight.proofs.Lists.{first_of-none, filter-none}
use Rattle.c62_flight.proofs.Fronts.{Early}

-- ---- the first cycle that is broken

-- a cycle below n is broken, and none before it
pub record BreaksBelow (issued : Issued) (n : ℕ) : Type 0 where
  pub cycle : ℕ
  pub below : cycle < n
  pub whole : IsWholeBefore issued cycle
  pub stop : Stop
  pub breaks : broken issued cycle ≡ Some stop

pub first_broken : (issued : Issued) (n : ℕ) → IsWholeBefore issued n ⊎ BreaksBelow issued n
first_broken issued zero = inl (λ c l. absurd (omega arith))
first_broken issued (suc n) = behind (first_broken issued n) (broken issued n) refl
  where
    behind : IsWholeBefore issued n ⊎ BreaksBelow issued n → (o : Option Stop) → broken issued n ≡ o
        → IsWholeBefore issued (suc n) ⊎ BreaksBelow issued (suc n)
    behind (inr b) o e = inr
        (let l : b.cycle < n = b.below in record
        { cycle = b.cycle; below = omega arith; whole = b.whole; stop = b.stop; breaks = b.breaks })
    behind (inl whole) (Some stop) e = inr
        (record { cycle = n; below = omega arith; whole = whole; stop = stop; breaks = e })
    behind (inl whole) None e =
        inl (λ c l. elim (cases_order c n) [
          | inl s ↦ ap (λ k. broken issued k) s ∙ e
          | inr (inl u) ↦ whole c u
          | inr (inr u) ↦ absurd (omega arith)
        ])

-- ---- behind the last landing nothing is broken

-- what an instruction of a run writes lands in four cycles
pub lands_soon : (s : Machine) (issued : Issued) → IsRun issued.placed s issued.did → (p : Placed) → In p issued.placed
    → (write : (Reg × ℕ) × ℕ) → In write (issued.did p).writes → write.0.1 ≤ 4
lands_soon s issued run p h write k =
    let k' : In write (act_of p.insn s.base (word_before issued.placed s issued.did p.cycle)
    (byte_before issued.placed s issued.did p.cycle)).writes
    = subst (λ (a : Act). In write a.writes) (run p (Contains_from_In p issued.placed h)) k in
    let w : In write.0 (register_writes p.insn) = act_writes p.insn s.base
    (word_before issued.placed s issued.did p.cycle)
    (byte_before issued.placed s issued.did p.cycle) write k' in
    let c : Contains (register_writes p.insn) (write.0.0, write.0.1) = Contains_from_In write.0 (register_writes p.insn)
    w in
    writes_delay p.insn write.0.0 write.0.1 c

clash_none : (did : Did) (c : ℕ) (ps : List Placed)
    → ((p : Placed) → In p ps → (write : (Reg × ℕ) × ℕ) → In write (did p).writes → p.cycle + write.0.1 < c)
    → clash did c ps ≡ None
clash_none did c [] h = refl
clash_none did c (p ∷ ps) h =
    ap (λ o. option_or o (clash did c ps))
    (first_of-none (met_by did c p ps) (did p).writes
    (λ write k. cond-false _ _ _
    (ne_eqb _ _ (λ (e : p.cycle + write.0.1 ≡ c). let l : p.cycle + write.0.1 < c = h p (inl refl) write k in
    omega arith))))
    ∙ clash_none did c ps (λ q k. h q (inr k))

pub quiet : (s : Machine) (issued : Issued) (cycle c : ℕ) → IsRun issued.placed s issued.did → Early cycle issued.placed
    → cycle + 4 ≤ c → broken issued c ≡ None
quiet s issued cycle c run early l =
    ap (λ fs. option_or (two_branches fs) (clash issued.did c issued.placed))
    (filter-none (has_branched issued.did c) issued.placed
    (λ p k. and_left _ _ (ne_eqb _ _ (λ (e : p.cycle ≡ c). let u : p.cycle < cycle = early p k in omega arith))))
    ∙ clash_none issued.did c issued.placed
    (λ p k write w. (let u : p.cycle < cycle = early p k in let d : write.0.1 ≤ 4 = lands_soon s issued run p k write w
    in omega arith))

-- ---- a stop

pub record Stopped (text : Text) (limit : ℕ) (issued : Issued) (last : Position) (end : ℕ) : Type 0 where
  pub stop : Stop
  pub cycles : ℕ
  pub stops : Stops text limit issued last end stop cycles

-- a run that ends where it stands is stopped
pub stopped_at : (text : Text) (limit : ℕ) (s : Machine) (issued : Issued) (last : Position) (end : ℕ) (stop : Stop)
    → IsRun issued.placed s issued.did → Early end issued.placed
    → ended text limit issued last end ≡ Some stop → Stopped text limit issued last end
stopped_at text limit s issued last end stop run early ends = by_first (first_broken issued (end + 4))
  where
    by_first : IsWholeBefore issued (end + 4) ⊎ BreaksBelow issued (end + 4) → Stopped text limit issued last end
    by_first (inr b) = record {
      stop = b.stop;
      cycles = min (b.cycle + 1) end;
      stops = inl (record {
        cycle = b.cycle;
        whole = b.whole;
        breaks = b.breaks;
        seen = inr (ap is_some ends);
        told = refl;
      });
    }
    by_first (inl whole) = record {
      stop = stop;
      cycles = end;
      stops = inr (record {
        whole = λ c. ⊎_elim {C = broken issued c ≡ None} (λ l. whole c l) (λ l. quiet s issued end c run early l)
            (cases_below c (end + 4));
        ends = ends;
        told = refl;
      });
    }
      where
        cases_below : (m n : ℕ) → (m < n) ⊎ (n ≤ m)
        cases_below m n = grind arith
