-- Where a run that is counted stands after some blocks, and how it goes on.
use Rattle.std.proofs.Common.{◌≡◌, ◌≢◌, ℕ, ◌+◌, ◌*◌, ◌<◌, ◌≤◌, Bool, true, false, List, [], ◌∷◌, ◌++◌, length, refl}
use Rattle.std.proofs.Common.{◌∙◌, sym, ap, subst, get_or, set, arith}
use Rattle.std.specs.Prelude.{sum_by, count_by, cond, ◌==◌}
use Rattle.std.proofs.lemmas.List.{get_or-set_same, get_or-set_other, length-append, length-set}
use Rattle.std.proofs.lemmas.Bool.{eqb-true}
use Rattle.std.proofs.lemmas.Bool.Decides.{nat_tests}
use Rattle.std.proofs.lemmas.List.Sums.{sum_by-append, count_by-le-length}
use Rattle.c62_serial.specs.declared.serial.Exit.{Exit}
use Rattle.c62_serial.specs.declared.chain.End.TheVariants.{End as FellThrough, Limit}
use Rattle.c62_serial.specs.declared.chain.Chain.{Chain}
use Rattle.c62_serial.specs.State.{Machine}
use Rattle.c62_serial.specs.Serial.{Ran}
use Rattle.c62_serial.specs.Chain.{Blocks, Standing, Ended, At, Position, position_at, position_after, Leads, IsStopped}
use Rattle.c62_serial.specs.Chain.{end_of}
use Rattle.c62_serial.proofs.ChainLemmas.{leads_nowhere, leads_on, at_block, past_end}
use Rattle.c62_profile.specs.declared.tally.Tally.{Tally}
use Rattle.c62_profile.specs.Visits.{AreVisits, Counts, times, visits_at}

pub record Turn (count : ℕ) (Does : Blocks) (cost : ℕ
    → ℕ) (opening machine : Machine) (position : Position) (blocks taken : ℕ) (visits : List ℕ) (limit : ℕ) : Type 0
  where
    pub numbers : List ℕ
    pub stands : Leads count Does opening (position_at count 0) numbers machine position
    pub counted : length numbers ≡ blocks
    pub within : blocks ≤ limit
    pub spent : taken ≡ sum_by cost numbers
    pub small : taken ≤ 65535 * blocks
    pub visited : AreVisits count numbers visits

pub first_turn : (count : ℕ) (Does : Blocks) (cost : ℕ → ℕ) (machine : Machine) (visits : List ℕ) (limit : ℕ)
    → AreVisits count [] visits
    → Turn count Does cost machine machine (position_at count 0) 0 0 visits limit
first_turn count Does cost machine visits limit none = record {
  numbers = [];
  stands = leads_nowhere count Does machine (position_at count 0);
  counted = refl;
  within = omega arith;
  spent = refl;
  small = omega arith;
  visited = none;
}

-- ---- one block more

times_more : (k : ℕ) (numbers : List ℕ) (number : ℕ)
    → times k (numbers ++ number ∷ []) ≡ times k numbers + times k (number ∷ [])
times_more k numbers number = sum_by-append (λ other. cond (other == k) 1 0) numbers (number ∷ [])

times_same : (k : ℕ) → times k (k ∷ []) ≡ 1
times_same k = grind (arith, nat_tests)

times_other : (k number : ℕ) → number ≢ k → times k (number ∷ []) ≡ 0
times_other k number other = grind (arith, nat_tests, other)

visit_at : (visits numbers : List ℕ) (number k : ℕ) → number < length visits
    → visits_at visits number ≡ times number numbers → visits_at visits k ≡ times k numbers
    → (b : Bool) → (number == k) ≡ b
    → visits_at (set visits number (visits_at visits number + 1)) k ≡ times k (numbers ++ number ∷ [])
visit_at visits numbers number k inside here there true e =
    let same : number ≡ k = eqb-true number k e in
    let now : visits_at (set visits number (visits_at visits number + 1)) number ≡ visits_at visits number + 1 =
    get_or-set_same visits number (visits_at visits number + 1) 0 inside in
    rw (← same) (now ∙ (let z : visits_at visits number + 1 ≡ times number numbers + times number (number ∷ []) = omega
    (arith, here, times_same number) in z) ∙ sym (times_more number numbers number))
visit_at visits numbers number k inside here there false e =
    let other : number ≢ k = grind (arith, nat_tests) in
    let back : k ≢ number = λ is. other (sym is) in
    let now : visits_at (set visits number (visits_at visits number + 1)) k ≡ visits_at visits k = get_or-set_other
    visits number k (visits_at visits number + 1) 0 back in
    now ∙ (let z : visits_at visits k ≡ times k numbers + times k (number ∷ []) = omega
    (arith, there, times_other k number other) in z) ∙ sym (times_more k numbers number)

pub visited_more : (count : ℕ) (numbers visits : List ℕ) (number : ℕ) → AreVisits count numbers visits → number < count
    → AreVisits count (numbers ++ number ∷ []) (set visits number (visits_at visits number + 1))
visited_more count numbers visits number visited inside = record {
  one_each = rw length-set visited.one_each;
  each = λ k below. visit_at visits numbers number k (rw visited.one_each inside) (visited.each number inside)
      (visited.each k below) (number == k) refl;
}

-- how often a block was run is no more than how many were
pub few_visits : (count : ℕ) (numbers visits : List ℕ) (number : ℕ) → AreVisits count numbers visits → number < count
    → visits_at visits number ≤ length numbers
few_visits count numbers visits number visited inside =
    let most : times number numbers ≤ length numbers = count_by-le-length (λ other. other == number) numbers in
    rw (visited.each number inside) most

pub turn_more : (count : ℕ) (Does : Blocks) (cost : ℕ
    → ℕ) (opening machine : Machine) (ran : Ran) (number blocks taken each : ℕ) (visits : List ℕ) (limit : ℕ)
    → number < count → Turn count Does cost opening machine (position_at count number) blocks taken visits limit
    → blocks ≢ limit
    → Does number machine ran → each ≡ cost number → each ≤ 65535
    → Turn count Does cost opening ran.machine (position_after count number ran.exit) (blocks + 1) (taken + each)
    (set visits number (visits_at visits number + 1)) limit
turn_more count Does cost opening machine ran number blocks taken each visits limit inside turn more does costs short =
    let P : Position → Type 0 = λ position. Leads count Does opening (position_at count 0) turn.numbers machine position
    in
    let here = subst P (at_block count number inside) turn.stands in
    let sum : sum_by cost (turn.numbers ++ number ∷ []) ≡ sum_by cost turn.numbers + cost number =
    sum_by-append cost turn.numbers (number ∷ [])
    ∙ (let z : sum_by cost (number ∷ []) ≡ cost number = omega arith in ap (λ n. sum_by cost turn.numbers + n)
    z) in
    let small : taken ≤ 65535 * blocks = turn.small in
    let spent : taken ≡ sum_by cost turn.numbers = turn.spent in
    record {
      numbers = turn.numbers ++ number ∷ [];
      stands = leads_on count Does opening machine (position_at count 0) turn.numbers number ran here does;
      counted = omega (arith, length-append turn.numbers (number ∷ []), turn.counted);
      within = omega (arith, turn.within, more);
      spent = omega (arith, sum, spent, costs);
      small = omega arith;
      visited = visited_more count turn.numbers visits number turn.visited inside;
    }

-- ---- the end

pub turn_ends : (count : ℕ) (Does : Blocks) (cost : ℕ
    → ℕ) (opening machine : Machine) (position : Position) (limit : ℕ) (chain : Chain) (tally : Tally)
    → Turn count Does cost opening machine position tally.blocks tally.taken tally.visits.items limit
    → IsStopped limit tally.blocks position
    → chain ≡ record { blocks = tally.blocks; stop = end_of position }
    → Counts count Does cost opening limit chain machine tally
turn_ends count Does cost opening machine position limit chain tally turn stopped told = record {
  standing = record { numbers = turn.numbers; machine = machine; position = position };
  whole = record { stands = turn.stands; stopped = rw turn.counted stopped };
  told = rw turn.counted told;
  left = refl;
  taken = turn.spent;
  visits = turn.visited;
}

pub ends_past : (count : ℕ) (Does : Blocks) (cost : ℕ
    → ℕ) (opening machine : Machine) (number limit : ℕ) (chain : Chain) (tally : Tally) → count ≤ number
    → Turn count Does cost opening machine (position_at count number) tally.blocks tally.taken tally.visits.items limit
    → chain ≡ record { blocks = tally.blocks; stop = FellThrough }
    → Counts count Does cost opening limit chain machine tally
ends_past count Does cost opening machine number limit chain tally beyond turn told =
    let P : Position → Type 0 = λ position. Turn count Does cost opening machine position tally.blocks tally.taken
    tally.visits.items limit in
    turn_ends count Does cost opening machine (Ended FellThrough) limit chain tally
    (subst P (past_end count number beyond) turn) turn.within told

pub ends_at_limit : (count : ℕ) (Does : Blocks) (cost : ℕ
    → ℕ) (opening machine : Machine) (number limit : ℕ) (chain : Chain) (tally : Tally) → number < count
    → Turn count Does cost opening machine (position_at count number) tally.blocks tally.taken tally.visits.items limit
    → tally.blocks ≡ limit
    → chain ≡ record { blocks = tally.blocks; stop = Limit } → Counts count Does cost opening limit chain machine tally
ends_at_limit count Does cost opening machine number limit chain tally inside turn reached told =
    let P : Position → Type 0 = λ position. Turn count Does cost opening machine position tally.blocks tally.taken
    tally.visits.items limit in
    turn_ends count Does cost opening machine (At number) limit chain tally
    (subst P (at_block count number inside) turn) reached told
