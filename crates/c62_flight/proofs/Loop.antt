-- A loop of one cycle, with six branches in flight, told by a table of what the registers hold in each cycle.
use Rattle.std.proofs.Common.{◌≡◌, ℕ, ◌-◌, map, List, [], ◌∷◌, get_or, refl, inr, ⊎_elim}
use Rattle.std.specs.Prelude.{true, None}
use Rattle.std.proofs.lemmas.Bool.{cases_lt}
use Rattle.c62_op.specs.declared.register.Reg.{Reg}
use Rattle.c62_serial.specs.State.{index_of}
use Rattle.c62_serial.specs.Effect.{Act, act_of}
use Rattle.c62_packet.specs.declared.placed.Placed.{Placed}
use Rattle.c62_meaning.specs.Packet.{Did, word_before, byte_before, IsRun}
use Rattle.c62_meaning.proofs.Lookup.{In, In_from_Contains}
use Rattle.c62_flight.specs.declared.stop.Stop.TheVariants.{End}
use Rattle.c62_flight.specs.Text.{At}
use Rattle.c62_flight.specs.Issued.{Visit, Issued, issued_on}
use Rattle.c62_flight.specs.Broken.{broken}
use Rattle.c62_flight.specs.Samples.{a1, a2, one_cycle_loop, counting, LoopFlies}
use Rattle.c62_flight.proofs.Stops.{quiet}
use Rattle.c62_flight.proofs.Flying.{flies_from}
use Rattle.c62_flight.proofs.PathTimes.{Goes}
use Rattle.c62_flight.proofs.RowTests.{none_below, none_at, early_by, leads_by}
use Rattle.std.proofs.Common.{arith}

-- where each of these does what it finds, so does one of them
one_of_same : {X : Type 0} (f g : Placed → X) (p : Placed) (ps : List Placed) → map f ps ≡ map g ps → In p ps
    → f p ≡ g p
one_of_same f g p [] e h = absurd h
one_of_same f g p (q ∷ ps) e h = grind (arith, one_of_same f g p ps)

-- ---- the loop

abbrev path : List Visit
path = record { row = 0; start = 0 } ∷ record { row = 1; start = 1 } ∷ record { row = 2; start = 2 } ∷ record
    { row = 3; start = 3 } ∷ record { row = 4; start = 4 } ∷ record { row = 5; start = 5 } ∷ record
    { row = 5; start = 6 } ∷ record { row = 5; start = 7 } ∷ record { row = 5; start = 8 } ∷ record
    { row = 5; start = 9 } ∷ record { row = 5; start = 10 } ∷ record { row = 5; start = 11 } ∷ record
    { row = 5; start = 12 } ∷ []

-- what a register holds in a cycle
abbrev table : ℕ → List ℕ → ℕ → Reg → ℕ
table a0 others cycle reg = get_or (a0 ∷ (7 - cycle) ∷ (cycle - 5) ∷ 1 ∷ 1 ∷ others) (index_of reg) 0

abbrev counts : ℕ → List ℕ → Did
counts a0 others p = act_of p.insn 0 (table a0 others p.cycle) (λ _. 0)

abbrev issued : ℕ → List ℕ → Issued
issued a0 others = record { placed = issued_on one_cycle_loop path; did = counts a0 others }

loop_runs : (a0 : ℕ) (others memory faults : List ℕ)
    → IsRun (issued_on one_cycle_loop path) (counting a0 others memory faults) (counts a0 others)
loop_runs a0 others memory faults p c =
    one_of_same (counts a0 others) found p placed refl (In_from_Contains p placed c)
  where
    placed : List Placed
    placed = issued_on one_cycle_loop path

    found : Placed → Act
    found p = act_of p.insn 0 (word_before placed (counting a0 others memory faults) (counts a0 others) p.cycle)
        (byte_before placed (counting a0 others memory faults) (counts a0 others) p.cycle)

loop_whole : (a0 : ℕ) (others : List ℕ) → none_below (broken (issued a0 others)) 17 ≡ true
loop_whole a0 others = refl

pub loop_flies : LoopFlies
loop_flies a0 others memory faults sound =
    let g : Goes one_cycle_loop 100 (counting a0 others memory faults) [] (At 0) 0 path End 13 = record {
      issued = issued a0 others;
      is = refl;
      run = loop_runs a0 others memory faults;
      last = At 6;
      end = 13;
      leads = leads_by one_cycle_loop 100 (issued a0 others) (At 0) 0 path (At 6) 13 17
          (λ c l. none_at (broken (issued a0 others)) 17 c (loop_whole a0 others) l) refl (
            (refl, refl, refl),
            (
              (refl, refl, refl),
              (
                (refl, refl, refl),
                (
                  (refl, refl, refl),
                  (
                    (refl, refl, refl),
                    (
                      (refl, refl, refl),
                      (
                        (refl, refl, refl),
                        (
                          (refl, refl, refl),
                          (
                            (refl, refl, refl),
                            (
                              (refl, refl, refl),
                              ((refl, refl, refl), ((refl, refl, refl), ((refl, refl, refl), (refl, refl)))),
                            ),
                          ),
                        ),
                      ),
                    ),
                  ),
                ),
              ),
            ),
          );
      stops = inr (record {
        whole = λ c. ⊎_elim {C = broken (issued a0 others) c ≡ None}
            (λ l. none_at (broken (issued a0 others)) 17 c (loop_whole a0 others) l)
            (λ l. quiet (counting a0 others memory faults) (issued a0 others) 13 c (loop_runs a0 others memory faults)
            (early_by 13 (issued_on one_cycle_loop path) refl) l) (cases_lt c 17);
        ends = refl;
        told = refl;
      });
    } in
    let r = flies_from one_cycle_loop 0 100 (counting a0 others memory faults) path End 13 sound g in
    (r.0, r.1, r.2.words a1, r.2.words a2)
