-- Sums over lists in which nothing stands twice, and over numbers that rise.
use Rattle.std.proofs.Common.{arith, ◌≡◌, ℕ, zero, suc, ◌+◌, ◌<◌, ◌≤◌, List, [], ◌∷◌, ◌++◌, map, refl, sym, ap}
use Rattle.std.proofs.Common.{subst, inl, inr, ⊎_elim}
use Rattle.std.specs.Prelude.{sum_by, slice_index}
use Rattle.std.specs.List.Sorted.{IsStrictlyIncreasing}
use Rattle.std.proofs.lemmas.Bool.{cases_lt}
use Rattle.std.proofs.lemmas.List.Sums.{sum_by-cons, sum_by-append}
use Rattle.c62_meaning.proofs.Lookup.{In, In-append_left, In-append_right, In-append_cases}

-- ---- nothing twice

abbrev pub AreOnce : {X : Type 0} → List X → Type 0
AreOnce [] = Unit {0}
AreOnce (x ∷ xs) = (In x xs → ⊥) × AreOnce xs

split : {X : Type 0} (x : X) (xs : List X) → In x xs → (front back : List X) × (xs ≡ front ++ x ∷ back)
split x [] h = absurd h
split x (y ∷ xs) (inl e) = ([], xs, ap (λ z. z ∷ xs) e)
split x (y ∷ xs) (inr h) = let r = split x xs h in (y ∷ r.0, r.1, ap (λ zs. y ∷ zs) r.2)

module _ {X : Type 0} (f : X → ℕ) (x : X) (xs ys front back : List X) (is : ys ≡ front ++ x ∷ back) where
  -- what lies in both but for one lies in what stands before and behind that
  others : (In x xs → ⊥) → ((z : X) → In z (x ∷ xs) → In z ys) → (z : X) → In z xs → In z (front ++ back)
  others once in_all z h =
      elim (In-append_cases z front (x ∷ back) (subst (λ zs. In z zs) is (in_all z (inr h)))) [
        | inl n ↦ In-append_left z front back n
        | inr n ↦ elim n [
          | inl e ↦ absurd (once (subst (λ w. In w xs) (sym e) h))
          | inr m ↦ In-append_right z front back m
        ]
      ]

  with_one : sum_by f xs ≤ sum_by f (front ++ back) → sum_by f (x ∷ xs) ≤ sum_by f ys
  with_one rest =
      let whole : sum_by f ys ≡ sum_by f (front ++ x ∷ back) = ap (sum_by f) is in
      omega (
        arith,
        rest,
        whole,
        sum_by-append f front (x ∷ back),
        sum_by-cons f x back,
        sum_by-append f front back,
        sum_by-cons f x xs,
      )

-- what lies in a list without repetition comes to no more than what lies in all of another
pub sum_once : {X : Type 0} (f : X → ℕ) (xs ys : List X) → AreOnce xs → ((x : X) → In x xs → In x ys)
    → sum_by f xs ≤ sum_by f ys
sum_once f [] ys once in_all = omega arith
sum_once f (x ∷ xs) ys once in_all =
    let r = split x ys (in_all x (inl refl)) in
    with_one f x xs ys r.0 r.1 r.2
    (sum_once f xs (r.0 ++ r.1) once.1 (others f x xs ys r.0 r.1 r.2 once.0 in_all))

-- ---- numbers that rise

-- so many numbers from one on
abbrev pub numbers_from : ℕ → ℕ → List ℕ
numbers_from from zero = []
numbers_from from (suc count) = from ∷ numbers_from (suc from) count

abbrev pub AtLeast : ℕ → List ℕ → Type 0
AtLeast from [] = Unit {0}
AtLeast from (n ∷ ns) = from ≤ n

abbrev pub Below : ℕ → List ℕ → Type 0
Below top [] = Unit {0}
Below top (n ∷ ns) = (n < top) × Below top ns

tail_rises : (n : ℕ) (ns : List ℕ) → IsStrictlyIncreasing (n ∷ ns) → IsStrictlyIncreasing ns
tail_rises n [] h k l = absurd (omega arith)
tail_rises n (m ∷ ns) h k l =
    let e : suc k + 1 ≡ suc (k + 1) = omega arith in
    subst (λ j. slice_index (m ∷ ns) k < slice_index (n ∷ m ∷ ns) j) e (h (suc k) (omega (arith, l)))

next_at_least : (n : ℕ) (ns : List ℕ) → IsStrictlyIncreasing (n ∷ ns) → AtLeast (suc n) ns
next_at_least n [] h = tt
next_at_least n (m ∷ ns) h = h 0 (omega arith)

-- numbers that rise come to no more than all from one on
pub sum_rising : (g : ℕ → ℕ) (from count top : ℕ) (ns : List ℕ) → from + count ≡ top → IsStrictlyIncreasing ns
    → AtLeast from ns → Below top ns → sum_by g ns ≤ sum_by g (numbers_from from count)
sum_rising g from count top [] is rises low high = omega arith
sum_rising g from zero top (n ∷ ns) is rises low high = absurd (omega (arith, is, low, high.0))
sum_rising g from (suc count) top (n ∷ ns) is rises low high =
    ⊎_elim {C = sum_by g (n ∷ ns) ≤ sum_by g (numbers_from from (suc count))}
    (λ (l : from < n). (let rest : sum_by g (n ∷ ns) ≤ sum_by g (numbers_from (suc from) count)
    = sum_rising g (suc from) count top (n ∷ ns) (omega (arith, is)) rises l high in
    omega (arith, rest, sum_by-cons g from (numbers_from (suc from) count))))
    (λ (l : n ≤ from). (let same : from ≡ n = omega (arith, l, low) in
    let here : g from ≡ g n = ap g same in
    let rest : sum_by g ns ≤ sum_by g (numbers_from (suc from) count)
    = sum_rising g (suc from) count top ns (omega (arith, is)) (tail_rises n ns rises)
    (subst (λ k. AtLeast (suc k) ns) (sym same) (next_at_least n ns rises)) high.1 in
    omega (arith, rest, here, sum_by-cons g n ns, sum_by-cons g from (numbers_from (suc from) count))))
    (cases_lt from n)

pub all_below : {X : Type 0} (f : X → ℕ) (top : ℕ) (xs : List X) → ((x : X) → f x < top) → Below top (map f xs)
all_below f top [] low = tt
all_below f top (x ∷ xs) low = (low x, all_below f top xs low)

pub from_zero : (ns : List ℕ) → AtLeast 0 ns
from_zero [] = tt
from_zero (n ∷ ns) = omega arith

pub sum_mapped : {X Y : Type 0} (g : Y → ℕ) (f : X → Y) (xs : List X) → sum_by g (map f xs) ≡ sum_by (λ x. g (f x)) xs
sum_mapped g f [] = refl
sum_mapped g f (x ∷ xs) =
    omega (arith, sum_mapped g f xs, sum_by-cons g (f x) (map f xs), sum_by-cons (λ z. g (f z)) x xs)
