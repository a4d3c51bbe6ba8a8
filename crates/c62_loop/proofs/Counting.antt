-- Steps and branches of a path, part by part.
use Rattle.std.proofs.Common.{◌≡◌, ℕ, zero, suc, ◌+◌, ◌-◌, ◌≤◌, true, false, List, [], ◌∷◌, ◌++◌, take, Some}
use Rattle.std.proofs.Common.{refl, ◌∙◌, subst, inl, inr, ⊎_elim, arith}
use Rattle.std.specs.Prelude.{slice_get}
use Rattle.std.proofs.lemmas.Bool.{cases_Bool}
use Rattle.std.proofs.lemmas.Option.{none-some, same_Some}
use Rattle.c62_op.specs.declared.register.Reg.{Reg}
use Rattle.c62_read.specs.declared.block.SerialInsn.{SerialInsn}
use Rattle.c62_serial.specs.State.{Machine}
use Rattle.c62_serial.specs.Serial.{after_entry, serial}
use Rattle.c62_meaning.proofs.Lookup.{In, In-append_cases}
use Rattle.c62_loop.specs.Counter.{size_of, steps_on, touches, IsCounted, steps_in, CountsFrom, work_of}
use Rattle.c62_loop.specs.Loop.{Region, rounds, loop_path, IsCountedLoop}
use Rattle.c62_loop.proofs.Lists.{get_cases, taken, taken_whole, taken_more}
use Rattle.c62_loop.proofs.Machines.{machine_after, serial_machine, In-All}
use Rattle.c62_loop.proofs.Apart.{work_with, work_without, step_more}
use Rattle.std.proofs.lemmas.Bool.Decides.{nat_tests}

pub after_both : (xs ys : List SerialInsn) (machine : Machine)
    → machine_after (xs ++ ys) machine ≡ machine_after ys (machine_after xs machine)
after_both [] ys machine = refl
after_both (x ∷ xs) ys machine = after_both xs ys (after_entry x machine)

pub serial_both : (xs ys : List SerialInsn) (machine : Machine)
    → (serial (xs ++ ys) machine).machine ≡ (serial ys (serial xs machine).machine).machine
serial_both xs ys machine = grind (arith, nat_tests, serial_machine, after_both)

-- ---- steps

module _ (counter : Reg) where
  pub steps_both : (xs ys : List SerialInsn) → steps_in counter (xs ++ ys) ≡ steps_in counter xs + steps_in counter ys
  steps_both [] ys = omega arith
  steps_both (x ∷ xs) ys =
      let rest : steps_in counter (xs ++ ys) ≡ steps_in counter xs + steps_in counter ys = steps_both xs ys in
      ⊎_elim {C = steps_in counter ((x ∷ xs) ++ ys) ≡ steps_in counter (x ∷ xs) + steps_in counter ys}
      (λ t.
      grind (arith, nat_tests))
      (λ f.
      grind (arith, nat_tests))
      (cases_Bool (steps_on counter x))

  -- a step has fewer before it than there are
  pub steps_before : (xs : List SerialInsn) (i : ℕ) (entry : SerialInsn) → slice_get xs i ≡ Some entry
      → steps_on counter entry ≡ true → steps_in counter (take i xs) + size_of entry ≤ steps_in counter xs
  steps_before [] i entry at t = absurd (none-some entry at)
  steps_before (x ∷ xs) zero entry at t = grind (arith, same_Some x entry at, step_more counter x xs)
  steps_before (x ∷ xs) (suc i) entry at t =
      let rest : steps_in counter (take i xs) + size_of entry ≤ steps_in counter xs = steps_before xs i entry at t in
      ⊎_elim {C = steps_in counter (x ∷ take i xs) + size_of entry ≤ steps_in counter (x ∷ xs)}
      (λ s.
      grind (arith, nat_tests))
      (λ s.
      grind (arith, nat_tests))
      (cases_Bool (steps_on counter x))

  -- ---- counting, part by part

  pub counts_front : (i value : ℕ) (xs : List SerialInsn) → CountsFrom counter value xs
      → CountsFrom counter value (take i xs)
  counts_front i value xs counts j entry at t = grind (arith, taken i j xs entry at)

  pub counts_both : (value : ℕ) (xs ys : List SerialInsn) → steps_in counter xs ≤ value → CountsFrom counter value xs
      → CountsFrom counter (value - steps_in counter xs) ys → CountsFrom counter value (xs ++ ys)
  counts_both value xs ys small one other i entry at t = grind (
    arith,
    get_cases xs ys i entry at,
    taken_whole,
    taken_more,
    steps_both,
  )

  -- what has no steps counts from anywhere
  pub counts_none : (value : ℕ) (xs : List SerialInsn) → steps_in counter xs ≡ 0 → CountsFrom counter value xs
  counts_none value xs none i entry at t = grind (arith, steps_before xs i entry at t)

  -- and what has one from a value above 0
  pub counts_one : (value : ℕ) (xs : List SerialInsn) → steps_in counter xs ≡ 1 → CountsFrom counter (suc value) xs
  counts_one value xs one i entry at t = grind (arith, steps_before xs i entry at t)

  steps_rounds : (body : List SerialInsn) (trips : ℕ) → steps_in counter body ≡ 1
      → steps_in counter (rounds body trips) ≡ trips
  steps_rounds body zero one = refl
  steps_rounds body (suc trips) one = grind (arith, steps_rounds body trips one, steps_both body (rounds body trips))

  counts_rounds : (body : List SerialInsn) (trips : ℕ) → steps_in counter body ≡ 1
      → CountsFrom counter trips (rounds body trips)
  counts_rounds body zero one i entry at t = absurd (none-some entry at)
  counts_rounds body (suc trips) one i entry at t =
      let left : trips ≡ suc trips - steps_in counter body = omega arith in
      counts_both (suc trips) body (rounds body trips) (omega arith) (counts_one trips body one)
      (subst (λ n. CountsFrom counter n (rounds body trips)) left (counts_rounds body trips one)) i entry at t

  -- ---- work

  -- what is work doesn't touch the counter
  pub in_work : (xs : List SerialInsn) (entry : SerialInsn) → In entry (work_of counter xs) → In entry xs
      × (touches counter entry ≡ false)
  in_work [] entry h = absurd h
  in_work (x ∷ xs) entry h =
      ⊎_elim {C = In entry (x ∷ xs) × (touches counter entry ≡ false)}
      (λ t. let r = in_work xs entry (subst (λ ys. In entry ys) (work_without counter x xs t) h) in (inr r.0, r.1))
      (λ f. grind (arith, in_work xs entry, work_with counter x xs f))
      (cases_Bool (touches counter x))

  pub no_work : (xs : List SerialInsn) → ((entry : SerialInsn) → In entry xs → touches counter entry ≡ true)
      → work_of counter xs ≡ []
  no_work [] h = refl
  no_work (x ∷ xs) h = work_without counter x xs (h x (inl refl)) ∙ no_work xs (λ e k. h e (inr k))

-- ---- the serial path of a counted loop

module _ (region : Region) (loop : IsCountedLoop region) where
  in_rounds : (trips : ℕ) (entry : SerialInsn) → In entry (rounds region.body trips) → In entry region.body
  in_rounds zero entry h = absurd h
  in_rounds (suc trips) entry h = elim (In-append_cases entry region.body (rounds region.body trips) h)
      [ inl k ↦ k | inr k ↦ in_rounds trips entry k ]

  pub path_counted : (trips : ℕ) (entry : SerialInsn) → In entry (loop_path region trips)
      → IsCounted region.counter region.number entry
  path_counted trips entry h = elim (In-append_cases entry (rounds region.body trips) region.behind h) [
    | inl m ↦ In-All (IsCounted region.counter region.number) region.body loop.body entry (in_rounds trips entry m)
    | inr m ↦ In-All (IsCounted region.counter region.number) region.behind loop.behind entry m
  ]

  pub path_steps : (trips : ℕ) → steps_in region.counter (loop_path region trips) ≡ trips
  path_steps trips = grind (arith, nat_tests, steps_both, steps_rounds)

  pub path_counts : (trips : ℕ) → CountsFrom region.counter trips (loop_path region trips)
  path_counts trips =
      counts_both region.counter trips (rounds region.body trips) region.behind
      (let c : steps_in region.counter (rounds region.body trips) ≡ trips = steps_rounds region.counter
      region.body trips loop.one_step in omega arith)
      (counts_rounds region.counter region.body trips loop.one_step)
      (counts_none region.counter (trips - steps_in region.counter (rounds region.body trips)) region.behind
      loop.no_step_behind)
