-- The visits of all blocks, summed up.
use native.Mathlib.Nat.{add-mul}
use Rattle.std.proofs.Common.{◌≡◌, ◌≢◌, ℕ, zero, suc, ◌+◌, ◌*◌, ◌<◌, ◌≤◌, Bool, true, false, List, [], ◌∷◌, length}
use Rattle.std.proofs.Common.{refl, ◌∙◌, sym, ap, subst, arith}
use Rattle.std.specs.Prelude.{cond, sum_by, ◌==◌}
use Rattle.std.specs.List.{AllByRecursion, range_with_len}
use Rattle.std.proofs.lemmas.List.Sums.{sum_by-append, sum_by-cons}
use Rattle.std.proofs.lemmas.Bool.{eqb-true}
use Rattle.std.proofs.lemmas.Bool.Decides.{nat_tests}
use Rattle.c62_serial.specs.declared.chain.Chain.{Chain}
use Rattle.c62_serial.specs.State.{Machine}
use Rattle.c62_serial.specs.Serial.{Ran}
use Rattle.c62_serial.specs.Chain.{At, Blocks, Leads, Position, position_at, position_after}
use Rattle.c62_serial.proofs.ChainLemmas.{IsPosition, is_position_at, is_position_after}
use Rattle.c62_profile.specs.declared.tally.Tally.{Tally}
use Rattle.c62_profile.specs.Visits.{AddsUp, AreVisits, Counts, all_runs, all_sums, times, visits_at}

abbrev pub Inside : ℕ → List ℕ → Type 0
Inside count numbers = AllByRecursion (λ number. number < count) numbers

-- a chain runs only blocks that are there
pub leads_inside : (count : ℕ) (Does : Blocks) (opening final : Machine) (position last : Position) (numbers : List ℕ)
    → IsPosition count position
    → Leads count Does opening position numbers final last → Inside count numbers
unfolding Leads
leads_inside count Does opening final position last [] at leads = tt
leads_inside count Does opening final position last (number ∷ numbers) at leads =
    let P : Position → Type 0 = λ other. IsPosition count other in (
      subst P leads.0 at,
      leads_inside count Does leads.1.machine final (position_after count number leads.1.exit) last
          numbers (is_position_after count number leads.1.exit) leads.3,
    )

-- what the numbers from a on sum up to, where each is the same
pub same_sum : (f g : ℕ → ℕ) (a n : ℕ) → ((k : ℕ) → a ≤ k → k < a + n → f k ≡ g k)
    → sum_by f (range_with_len a n) ≡ sum_by g (range_with_len a n)
same_sum f g a zero same = refl
same_sum f g a (suc n) same =
    let first : f a ≡ g a = same a (omega arith) (omega arith) in
    let rest : sum_by f (range_with_len (a + 1) n) ≡ sum_by g (range_with_len (a + 1) n) = same_sum f g (a + 1) n
    (λ k above below. same k (omega arith) (omega arith)) in
    sum_by-cons f a (range_with_len (a + 1) n)
    ∙ (let z : f a + sum_by f (range_with_len (a + 1) n) ≡ g a + sum_by g (range_with_len (a + 1) n) = omega
    arith in z)
    ∙ sym (sum_by-cons g a (range_with_len (a + 1) n))

pub both_sums : (f g : ℕ → ℕ) (xs : List ℕ) → sum_by (λ k. f k + g k) xs ≡ sum_by f xs + sum_by g xs
both_sums f g [] = refl
both_sums f g (x ∷ xs) =
    let rest : sum_by (λ k. f k + g k) xs ≡ sum_by f xs + sum_by g xs = both_sums f g xs in
    rw (sum_by-cons (λ k. f k + g k) x xs, sum_by-cons f x xs, sum_by-cons g x xs) (omega arith)

pub no_sum : (xs : List ℕ) → sum_by (λ k. 0) xs ≡ 0
no_sum [] = refl
no_sum (x ∷ xs) = let rest : sum_by (λ k. 0) xs ≡ 0 = no_sum xs in rw (sum_by-cons (λ k. 0) x xs) (omega arith)

-- what one run of a block adds to the row of block k
abbrev one_run : (ℕ → ℕ) → ℕ → ℕ → ℕ
one_run cost number k = times k (number ∷ []) * cost k

run_here : (cost : ℕ → ℕ) (k : ℕ) → one_run cost k k ≡ cost k
run_here cost k = let e : times k (k ∷ []) ≡ 1 = grind (arith, nat_tests) in rw e (omega arith)

run_elsewhere : (cost : ℕ → ℕ) (number k : ℕ) → number ≢ k → one_run cost number k ≡ 0
run_elsewhere cost number k other = let e : times k (number ∷ []) ≡ 0 = grind (arith, nat_tests, other) in rw e
    (omega arith)

one_sum : (cost : ℕ → ℕ) (number a n : ℕ) → a ≤ number → number < a + n
    → sum_by (one_run cost number) (range_with_len a n) ≡ cost number
one_sum cost number a zero above below = absurd (omega arith)
one_sum cost number a (suc n) above below = go (number == a) refl
    (λ more. one_sum cost number (a + 1) n more (omega arith))
  where
    go : (b : Bool) → (number == a) ≡ b
        → (a + 1 ≤ number → sum_by (one_run cost number) (range_with_len (a + 1) n) ≡ cost number)
        → sum_by (one_run cost number) (range_with_len a (suc n)) ≡ cost number
    go true e further =
        let same : number ≡ a = eqb-true number a e in
        let here : one_run cost number a ≡ cost number = rw same (run_here cost a) in
        let none : sum_by (one_run cost number) (range_with_len (a + 1) n) ≡ 0 =
        same_sum (one_run cost number) (λ k. 0) (a + 1) n (λ k more less. run_elsewhere cost number k (omega arith))
        ∙ no_sum (range_with_len (a + 1) n) in
        rw (sum_by-cons (one_run cost number) a (range_with_len (a + 1) n)) (omega (arith, here, none))
    go false e further =
        let other : number ≢ a = grind (arith, nat_tests) in
        let here : one_run cost number a ≡ 0 = run_elsewhere cost number a other in
        let rest : sum_by (one_run cost number) (range_with_len (a + 1) n) ≡ cost number = further
        (omega (arith, other)) in
        rw (sum_by-cons (one_run cost number) a (range_with_len (a + 1) n)) (omega (arith, here, rest))

-- what the rows sum up to is what the blocks that were run take
pub rows_sum : (cost : ℕ → ℕ) (count : ℕ) (numbers : List ℕ) → Inside count numbers
    → sum_by (λ k. times k numbers * cost k) (range_with_len 0 count) ≡ sum_by cost numbers
rows_sum cost count [] inside =
    same_sum (λ k. times k [] * cost k) (λ k. 0) 0 count (λ k above below. (let z : 0 * cost k ≡ 0 = omega arith in z))
    ∙ no_sum (range_with_len 0 count)
rows_sum cost count (number ∷ numbers) inside =
    let parts : (k : ℕ) → times k (number ∷ numbers) * cost k ≡ one_run cost number k + times k numbers * cost k = λ k.
    part k in
    let one : sum_by (one_run cost number) (range_with_len 0 count) ≡ cost number = one_sum cost number 0 count
    (omega arith) (omega (arith, inside.0)) in
    let rest : sum_by (λ k. times k numbers * cost k) (range_with_len 0 count) ≡ sum_by cost numbers = rows_sum cost
    count numbers inside.1 in
    same_sum (λ k. times k (number ∷ numbers) * cost k) (λ k. one_run cost number k + times k numbers * cost k) 0 count
    (λ k above below. parts k)
    ∙ both_sums (one_run cost number) (λ k. times k numbers * cost k) (range_with_len 0 count)
    ∙ (let z : sum_by (one_run cost number) (range_with_len 0 count) + sum_by (λ k. times k numbers * cost k)
    (range_with_len 0 count) ≡ cost number + sum_by cost numbers = omega arith in z)
    ∙ sym (sum_by-cons cost number numbers)
  where
    cons : (k : ℕ) → times k (number ∷ numbers) ≡ times k (number ∷ []) + times k numbers
    cons k = sum_by-append (λ other. cond (other == k) 1 0) (number ∷ []) numbers

    part : (k : ℕ) → times k (number ∷ numbers) * cost k ≡ one_run cost number k + times k numbers * cost k
    part k = rw (cons k) (add-mul (times k (number ∷ [])) (times k numbers) (cost k))

ones : (xs : List ℕ) → sum_by (λ k. 1) xs ≡ length xs
ones [] = refl
ones (x ∷ xs) = let rest : sum_by (λ k. 1) xs ≡ length xs = ones xs in rw (sum_by-cons (λ k. 1) x xs) (omega arith)

pub adds_up : (count : ℕ) (Does : Blocks) (cost : ℕ
    → ℕ) (opening : Machine) (limit : ℕ) (chain : Chain) (final : Machine) (tally : Tally)
    → Counts count Does cost opening limit chain final tally → AddsUp count cost chain tally
adds_up count Does cost opening limit chain final tally counts =
    let numbers = counts.standing.numbers in
    let inside : Inside count numbers = leads_inside count Does opening counts.standing.machine (position_at count 0)
    counts.standing.position numbers (is_position_at count 0) counts.whole.stands in
    record {
      runs = same_sum (visits_at tally.visits.items) (λ k. times k numbers * 1) 0 count
          (λ k above below. counts.visits.each k (omega arith) ∙ omega arith)
          ∙ rows_sum (λ k. 1) count numbers inside ∙ ones numbers ∙ sym (ap (λ (c : Chain). c.blocks) counts.told);
      sums = same_sum (λ k. visits_at tally.visits.items k * cost k) (λ k. times k numbers * cost k) 0 count
          (λ k above below. ap (λ v. v * cost k) (counts.visits.each k (omega arith)))
          ∙ rows_sum cost count numbers inside ∙ sym counts.taken;
    }
