-- Finite checks of distances, turns and lists.
use Rattle.std.proofs.Common.{◌≡◌, ℕ, zero, suc, ◌+◌, ◌<◌, ◌≤◌, ℤ, pos, ◌+ℤ◌, ◌≤ℤ◌, Bool, true, false, not, ◌&&◌, ◌||◌}
use Rattle.std.proofs.Common.{leb, ltb, List, [], ◌∷◌, length, Option, Some, None, refl, ◌∙◌, subst, inl, inr}
use Rattle.std.proofs.Common.{arith, map}
use Rattle.std.specs.Prelude.{All, Contains, slice_get}
use Rattle.std.specs.Int.Signed.{le_z}
use Rattle.std.proofs.lemmas.Bool.{and_parts, leb-true}
use Rattle.std.proofs.lemmas.Int.{ints}
use Rattle.std.proofs.lemmas.Option.{none-some, same_Some, get_or_from_slice_get, slice_get_within}
use Rattle.std.specs.List.{list_all}
use Rattle.std.specs.List.Sorted.{IsStrictlyIncreasing}
use Rattle.c62_op.specs.declared.register.Reg.{Reg}
use Rattle.c62_insn.specs.declared.insn.Insn.{Insn}
use Rattle.c62_rules.specs.Dependence.{IsLatency}
use Rattle.c62_depend.specs.Latency.{latency}
use Rattle.c62_depend.proofs.Latencies.{latency-is}
use Rattle.c62_packet.specs.declared.placed.Placed.{Placed}
use Rattle.c62_meaning.proofs.Lookup.{In, In_from_Contains}
use Rattle.c62_loop.specs.Counter.{steps_on}
use Rattle.c62_loop.specs.Stage.{Straights, insns_of, KeepDistances}
use Rattle.c62_loop.specs.Whole.{entry_of, IsInTurn, AreInTurn, StandInTurn}
use Rattle.c62_loop.proofs.Lists.{all_in}
use Rattle.std.proofs.lemmas.Bool.Decides.{nat_tests}

-- ---- finite checks

abbrev pub all_below : (ℕ → Bool) → ℕ → Bool
all_below f zero = true
all_below f (suc n) = f n && all_below f n

pub below : (f : ℕ → Bool) (n k : ℕ) → all_below f n ≡ true → k < n → f k ≡ true
below f zero k e l = absurd (omega arith)
below f (suc n) k e l = grind (arith, below f n k)

-- a latency is kept
abbrev pub is_kept : Option ℤ → Option Placed → Option Placed → Bool
is_kept (Some l) (Some p) (Some q) = le_z (pos p.cycle +ℤ l) (pos q.cycle)
is_kept _ _ _ = true

abbrev pub are_kept : List Insn → List Placed → ℕ → Bool
are_kept path placed n = all_below
    (λ j. all_below (λ i. is_kept (latency path i j) (slice_get placed i) (slice_get placed j)) j) n

pub keep_all : (straights : Straights) (trips : ℕ) (placed : List Placed)
    → are_kept (insns_of straights trips) placed (length placed) ≡ true
    → KeepDistances (λ one other. false) straights trips placed
keep_all straights trips placed e i j p q bound at_p at_q asked needed =
    by_latency (latency (insns_of straights trips) i j) refl (latency-is (insns_of straights trips) i j)
  where
    kept : is_kept (latency (insns_of straights trips) i j) (slice_get placed i) (slice_get placed j) ≡ true
    kept =
        below (λ i. is_kept (latency (insns_of straights trips) i j) (slice_get placed i) (slice_get placed j)) j i
        (below (λ j. all_below
        (λ i. is_kept (latency (insns_of straights trips) i j) (slice_get placed i) (slice_get placed j)) j)
        (length placed) j e (slice_get_within placed j q at_q)) asked.bounds.before

    by_latency : (o : Option ℤ) → latency (insns_of straights trips) i j ≡ o
        → IsLatency (insns_of straights trips) i j o → (pos p.cycle +ℤ bound) ≤ℤ pos q.cycle
    by_latency None at none = absurd (none (bound, asked.bounds))
    by_latency (Some l) at greatest =
        let most : bound ≤ℤ l = greatest.greatest bound asked.bounds in
        grind (arith, nat_tests, kept, ints)

-- those of a list stand in another, at these places
pub stand_at : (xs ys : List Placed) (places : List ℕ) → map (slice_get ys) places ≡ map Some xs → (p : Placed)
    → Contains xs p → Contains ys p
stand_at [] ys places e p (k, l, same) = absurd (omega (arith, l))
stand_at (x ∷ xs) ys [] e p c = absurd cc
stand_at (x ∷ xs) ys (place ∷ places) e p (zero, l, same) =
    let first : slice_get ys place ≡ Some x = cc in
    (place, slice_get_within ys place x first, get_or_from_slice_get ys place x p first ∙ same)
stand_at (x ∷ xs) ys (place ∷ places) e p (suc k, l, same) = stand_at xs ys places (cc) p (k, omega (arith, l), same)

-- in turn
abbrev pub is_in_turn : Reg → Placed → Placed → Bool
is_in_turn counter p q = leb p.cycle q.cycle && (not (steps_on counter (entry_of p)) || ltb p.cycle q.cycle)

abbrev pub all_behind : Reg → Placed → List Placed → Bool
all_behind counter p [] = true
all_behind counter p (q ∷ qs) = is_in_turn counter p q && all_behind counter p qs

abbrev pub all_turn : Reg → List Placed → List Placed → Bool
all_turn counter [] qs = true
all_turn counter (p ∷ ps) qs = all_behind counter p qs && all_turn counter ps qs

abbrev pub stand_turn : Reg → List Placed → Bool
stand_turn counter [] = true
stand_turn counter (p ∷ ps) = all_behind counter p ps && stand_turn counter ps

pub in_turn : (counter : Reg) (p q : Placed) → is_in_turn counter p q ≡ true → IsInTurn counter p q
in_turn counter p q e = grind (arith, leb-true p.cycle q.cycle)

pub behind_turn : (counter : Reg) (p : Placed) (qs : List Placed) → all_behind counter p qs ≡ true → (q : Placed)
    → In q qs → IsInTurn counter p q
behind_turn counter p [] e q h = absurd h
behind_turn counter p (x ∷ qs) e q (inl s) = grind (arith, in_turn counter p x)
behind_turn counter p (x ∷ qs) e q (inr h) = behind_turn counter p qs
    (and_parts (is_in_turn counter p x) (all_behind counter p qs) e).1 q h

pub lists_turn : (counter : Reg) (ps qs : List Placed) → all_turn counter ps qs ≡ true → (p q : Placed) → In p ps
    → In q qs → IsInTurn counter p q
lists_turn counter [] qs e p q h k = absurd h
lists_turn counter (x ∷ ps) qs e p q (inl s) k = grind (arith, behind_turn counter x qs)
lists_turn counter (x ∷ ps) qs e p q (inr h) k = lists_turn counter ps qs
    (and_parts (all_behind counter x qs) (all_turn counter ps qs) e).1 p q h k

pub are_turn : (counter : Reg) (ps qs : List Placed) → all_turn counter ps qs ≡ true → AreInTurn counter ps qs
are_turn counter ps qs e p q c d = lists_turn counter ps qs e p q (In_from_Contains p ps c) (In_from_Contains q qs d)

pub turn_stands : (counter : Reg) (ps : List Placed) → stand_turn counter ps ≡ true → StandInTurn counter ps
turn_stands counter [] e = search
turn_stands counter (p ∷ ps) e =
    let parts = and_parts (all_behind counter p ps) (stand_turn counter ps) e in (
      (λ x q c d. subst (λ z. IsInTurn counter z q) (only x (In_from_Contains x (p ∷ []) c))
          (behind_turn counter p ps parts.0 q (In_from_Contains q ps d))),
      turn_stands counter ps parts.1,
    )
  where
    only : (x : Placed) → In x (p ∷ []) → p ≡ x
    only x h = grind arith

-- each of a list, by its number
abbrev pub EachFrom : (ℕ → Placed → Type 0) → ℕ → List Placed → Type 0
EachFrom P k [] = Unit {0}
EachFrom P k (x ∷ xs) = P k x × EachFrom P (k + 1) xs

pub each_at : (P : ℕ → Placed → Type 0) (k : ℕ) (xs : List Placed) → EachFrom P k xs → (i : ℕ) (p : Placed)
    → slice_get xs i ≡ Some p → P (k + i) p
each_at P k [] h i p e = absurd (none-some p e)
each_at P k (x ∷ xs) h zero p e = grind (arith, same_Some x p e)
each_at P k (x ∷ xs) h (suc i) p e = grind (arith, each_at P (k + 1) xs h.1 i p e)

-- ---- lists, element by element

abbrev pub AllOf : {X : Type 0} → (X → Type 0) → List X → Type 0
AllOf P [] = Unit {0}
AllOf P (x ∷ xs) = P x × AllOf P xs

pub all_of : {X : Type 0} (P : X → Type 0) (xs : List X) → AllOf P xs → All P xs
all_of {X = X} P xs h = all_in P xs (inside xs h)
  where
    inside : (xs : List X) → AllOf P xs → (x : X) → In x xs → P x
    inside [] h x k = absurd k
    inside (y ∷ xs) h x k = grind (arith, inside xs h.1 x)

-- a number of each is at most so great
pub few_of : {X : Type 0} (number : X → ℕ) (most : ℕ) (xs : List X) → list_all (λ x. leb (number x) most) xs ≡ true
    → All (λ x. number x ≤ most) xs
few_of {X = X} number most xs e = all_in (λ x. number x ≤ most) xs (inside xs e)
  where
    inside : (xs : List X) → list_all (λ x. leb (number x) most) xs ≡ true → (x : X) → In x xs → number x ≤ most
    inside [] e x h = absurd h
    inside (y ∷ xs) e x h =
        let parts = and_parts (leb (number y) most) (list_all (λ z. leb (number z) most) xs) e in
        grind (arith, nat_tests, inside xs parts.1 x)

pub rises_one : (a : ℕ) → IsStrictlyIncreasing (a ∷ [])
rises_one a k l = absurd (omega arith)

pub rises_three : IsStrictlyIncreasing (1 ∷ 3 ∷ 5 ∷ [])
rises_three h k = grind arith

pub rises_four : IsStrictlyIncreasing (0 ∷ 1 ∷ 3 ∷ 5 ∷ [])
rises_four h k = grind arith
