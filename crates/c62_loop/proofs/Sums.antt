-- The loop that sums words is pipelined by its packets.
use Rattle.std.proofs.Common.{◌≡◌, ℕ, zero, suc, ◌+◌, ◌<◌, ◌≤◌, true, false, List}
use Rattle.std.proofs.Common.{[], ◌∷◌, ◌++◌, map, take, Some, refl, sym, subst, ◌⊎◌, inr}
use Rattle.std.proofs.Common.{arith}
use Rattle.std.specs.Prelude.{slice_get}
use Rattle.std.proofs.lemmas.Bool.{leb-true, false≢true}
use Rattle.c62_op.specs.declared.register.Letter.TheVariants.{L, D}
use Rattle.c62_op.specs.declared.register.Side.TheVariants.{A}
use Rattle.c62_op.specs.declared.register.Unit.{Unit as FunctionalUnit}
use Rattle.c62_op.proofs.Chains.{◌⨾◌}
use Rattle.c62_meaning.specs.Cut.{moved}
use Rattle.c62_flight.specs.Issued.{issued_on}
use Rattle.c62_flight.specs.Laid.{straight}
use Rattle.c62_rules.specs.Length.{landing_end}
use Rattle.c62_read.specs.declared.block.SerialInsn.{SerialInsn}
use Rattle.c62_depend.specs.Latency.{latency, by_registers}
use Rattle.c62_packet.specs.declared.placed.Placed.{Placed}
use Rattle.c62_packet.specs.Packed.{issue_of}
use Rattle.c62_meaning.proofs.Lookup.{In_from_Contains}
use Rattle.c62_loop.specs.Counter.{steps_on, StopsAtZero}
use Rattle.c62_loop.specs.Loop.{visits_of, IsCountedLoop, IsPipelined, EndsPass}
use Rattle.c62_loop.specs.Stage.{placed_of, KeepDistances}
use Rattle.c62_loop.specs.Whole.{work_insns, entry_of, steps_of, IsControl, IsSteering, IsPipelining}
use Rattle.c62_loop.specs.Sample.{a1, load, add, step, sum, load_in, add_in}
use Rattle.c62_loop.specs.Sample.{branch_in, pipelined_sum, sum_schedule, sum_control}
use Rattle.c62_loop.proofs.Checks.{keep_all, stand_at, are_turn, turn_stands, EachFrom, each_at, all_of, few_of}
use Rattle.c62_loop.proofs.SumSteps.{step_stops}
use Rattle.c62_loop.proofs.SumSteps.{step_control, six_control, branch_control}
use Rattle.std.proofs.lemmas.Bool.Decides.{nat_tests}

pub sum_counts : IsCountedLoop sum
sum_counts = grind (arith, nat_tests)

pub sum_stands : IsPipelined pipelined_sum
sum_stands = grind (arith, nat_tests)

abbrev load_entry : SerialInsn
load_entry = record { insn = load; line = 1 }

abbrev add_entry : SerialInsn
add_entry = record { insn = add; line = 2 }

abbrev on_d : FunctionalUnit
on_d = record { letter = D; side = A }

abbrev on_l : FunctionalUnit
on_l = record { letter = L; side = A }

sum_steers : IsSteering a1 pipelined_sum 5 sum_control
sum_steers = record {
  early = all_of (IsControl a1 0) sum_control.early
      (six_control 0 ⨾ branch_control 1 ⨾ step_control 1 ⨾ branch_control 2 ⨾ step_control 2 ⨾ branch_control 3
      ⨾ step_control 3 ⨾ branch_control 4 ⨾ step_control 4 ⨾ branch_control 5 ⨾ step_control 5 ⨾ tt);
  kernel = all_of (IsControl a1 0) sum_control.kernel (branch_control 6, (step_control 6, tt));
  early_turn = turn_stands a1 sum_control.early refl;
  kernel_turn = turn_stands a1 sum_control.kernel refl;
  seam = are_turn a1 sum_control.early sum_control.kernel refl;
  next = are_turn a1 sum_control.kernel (map (moved 1) sum_control.kernel) refl;
  one_step = refl;
  enough = leb-true _ _ refl;
  early_counts = λ i p at. grind (arith, at_zero, leb-true, no_step, stops);
  kernel_counts = λ i p at. grind (arith, at_zero, no_step, stops);
  ahead = 5;
  early_tests = λ i p at. at_zero (λ k x. steps_on a1 (entry_of x) ≡ false → (pass : ℕ) × EndsPass pipelined_sum pass x
      × (steps_of a1 (take k sum_control.early) ≡ 5 + suc pass)) sum_control.early
      (no_branch ⨾ (λ f. (0, refl, refl)) ⨾ no_branch ⨾ (λ f. (1, refl, refl))
      ⨾ no_branch ⨾ (λ f. (2, refl, refl)) ⨾ no_branch ⨾ (λ f. (3, refl, refl)) ⨾ no_branch
      ⨾ (λ f. (4, refl, refl)) ⨾ no_branch ⨾ tt) i p at;
  early_passes = early_passes;
  kernel_tests = λ i p at. grind (arith, at_zero, no_branch);
  kernel_pass = (0, branch_in 6, refl, refl);
}
  where
    -- what is no step, and what is one
    no_step : {X : Type 0} → false ≡ true → X
    no_step t = absurd (false≢true t)

    no_branch : {X : Type 0} → true ≡ false → X
    no_branch f = absurd (false≢true (sym f))

    stops : {X : Type 0} → true ≡ true → X ⊎ StopsAtZero a1 (record { insn = step; line = 3 })
    stops t = inr (step_stops 3)

    at_zero : (P : ℕ → Placed → Type 0) (xs : List Placed) → EachFrom P 0 xs → (i : ℕ) (p : Placed)
        → slice_get xs i ≡ Some p → P i p
    at_zero P xs h i p e = let s : 0 + i ≡ i = omega arith in subst (λ n. P n p) s (each_at P 0 xs h i p e)

    early_passes : (pass : ℕ) → pass < 5 → (i : ℕ) × (p : Placed) × (slice_get sum_control.early i ≡ Some p)
        × (steps_on a1 (entry_of p) ≡ false) × EndsPass pipelined_sum pass p
    early_passes zero l = (1, branch_in 1, refl, refl, refl)
    early_passes (suc zero) l = (3, branch_in 2, refl, refl, refl)
    early_passes (suc (suc zero)) l = (5, branch_in 3, refl, refl, refl)
    early_passes (suc (suc (suc zero))) l = (7, branch_in 4, refl, refl, refl)
    early_passes (suc (suc (suc (suc zero)))) l = (9, branch_in 5, refl, refl, refl)
    early_passes (suc (suc (suc (suc (suc n))))) l = absurd (omega arith)

sum_keeps : (passes : ℕ) → 0 < passes → passes ≤ 8
    → KeepDistances (λ one other. false) (work_insns sum) (5 + passes) (placed_of sum_schedule (5 + passes) passes)
unfolding latency by_registers
sum_keeps zero l u = absurd (omega arith)
sum_keeps (suc zero) l u = keep_all (work_insns sum) 6 (placed_of sum_schedule 6 1) refl
sum_keeps (suc (suc zero)) l u = keep_all (work_insns sum) 7 (placed_of sum_schedule 7 2) refl
sum_keeps (suc (suc (suc zero))) l u = keep_all (work_insns sum) 8 (placed_of sum_schedule 8 3) refl
sum_keeps (suc (suc (suc (suc zero)))) l u = keep_all (work_insns sum) 9 (placed_of sum_schedule 9 4) refl
sum_keeps (suc (suc (suc (suc (suc zero))))) l u = keep_all (work_insns sum) 10 (placed_of sum_schedule 10 5) refl
sum_keeps (suc (suc (suc (suc (suc (suc zero)))))) l u = keep_all (work_insns sum) 11 (placed_of sum_schedule 11 6) refl
sum_keeps (suc (suc (suc (suc (suc (suc (suc zero))))))) l u = keep_all (work_insns sum) 12
    (placed_of sum_schedule 12 7) refl
sum_keeps (suc (suc (suc (suc (suc (suc (suc (suc zero)))))))) l u = keep_all (work_insns sum) 13
    (placed_of sum_schedule 13 8) refl
sum_keeps (suc (suc (suc (suc (suc (suc (suc (suc (suc n))))))))) l u = absurd (omega arith)

abbrev prolog_issued : List Placed
prolog_issued = issued_on pipelined_sum.text (straight pipelined_sum.text 0 0 6)

abbrev prolog_placed : List Placed
prolog_placed = sum_control.early ++ ([] ++ (load_in 1 ∷ load_in 2 ∷ load_in 3 ∷ load_in 4 ∷ load_in 5 ∷ []))

abbrev kernel_issued : List Placed
kernel_issued = issued_on pipelined_sum.text (straight pipelined_sum.text 6 6 1)

abbrev kernel_placed : List Placed
kernel_placed = sum_control.kernel ++ (load_in 6 ∷ add_in 6 ∷ [])

abbrev epilog_issued : List Placed
epilog_issued = issued_on pipelined_sum.text (straight pipelined_sum.text 7 6 5)

abbrev epilog_placed : List Placed
epilog_placed = add_in 6 ∷ add_in 7 ∷ add_in 8 ∷ add_in 9 ∷ add_in 10 ∷ []

pub sum_pipelines : IsPipelining (λ one other. false) sum pipelined_sum 5
sum_pipelines = record {
  schedule = sum_schedule;
  control = sum_control;
  same_interval = refl;
  before = tt;
  body = grind (arith, nat_tests);
  behind = tt;
  prolog = λ p. (
    stand_at prolog_issued prolog_placed
        (0 ∷ 2 ∷ 11 ∷ 1 ∷ 4 ∷ 12 ∷ 3 ∷ 6 ∷ 13 ∷ 5 ∷ 8 ∷ 14 ∷ 7 ∷ 10 ∷ 15 ∷ 9 ∷ []) refl p,
    stand_at prolog_placed prolog_issued
        (0 ∷ 3 ∷ 1 ∷ 6 ∷ 4 ∷ 9 ∷ 7 ∷ 12 ∷ 10 ∷ 15 ∷ 13 ∷ 2 ∷ 5 ∷ 8 ∷ 11 ∷ 14 ∷ []) refl p,
  );
  kernel = λ p. grind (arith, stand_at);
  epilog = λ p. grind (arith, stand_at);
  steering = sum_steers;
  begins = λ p q c. absurd (In_from_Contains p [] c);
  keeps = sum_keeps;
  drained = few_of (λ p. landing_end (issue_of p)) 12 (issued_on pipelined_sum.text (visits_of pipelined_sum 1)) refl;
}
