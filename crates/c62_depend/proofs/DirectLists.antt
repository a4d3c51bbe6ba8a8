-- The lists of direct dependences have each of them once.
use Rattle.c62_depend.proofs.Common.{◌≡◌, ℕ, zero, suc, ◌+◌, ◌-◌, ◌<◌, ◌≤◌, ℤ, Bool, true, false, List, [], ◌∷◌, ◌++◌}
use Rattle.c62_depend.proofs.Common.{length, Option, Some, None}
use Rattle.c62_depend.proofs.Common.{refl, sym, ap, ◌∙◌, subst, arith, All, All-weaker, flat_map, range_with_len, Insn}
use Rattle.c62_depend.proofs.Common.{Link, latency, linked}
use Rattle.c62_depend.specs.Direct.{linked_if, direct_before, IsDirect}
unfoldable use Rattle.c62_depend.specs.Direct.{is_direct, direct_needs, direct_followers}
use Rattle.c62_depend.specs.Laws.{AreLinks}
use Rattle.c62_depend.proofs.Plans.{short_is}
use Rattle.c62_depend.proofs.Ranges.{pieces_more}
use Rattle.c62_depend.proofs.Rules.{Tells, pieces_are}

-- a latency, where that applies
abbrev pub masked : Bool → Option ℤ → Option ℤ
masked true o = o
masked false o = None

-- the latency of a direct dependence
abbrev pub direct_latency : List Insn → ℕ → ℕ → Option ℤ
direct_latency block i j = masked (is_direct block i j) (latency block i j)

linked_masked : (t : Bool) (number : ℕ) (o : Option ℤ) → linked_if t number o ≡ linked number (masked t o)
linked_masked true number o = refl
linked_masked false number o = refl

masked_is : (t : Bool) (o : Option ℤ) (l : ℤ) → masked t o ≡ Some l → (t ≡ true) × (o ≡ Some l)
masked_is true o l e = (refl, e)
masked_is false o l e = cc

of_masked : (t : Bool) (o : Option ℤ) (l : ℤ) → t ≡ true → o ≡ Some l → masked t o ≡ Some l
of_masked t o l direct e = rw direct e

pub direct_latency_is : (block : List Insn) (i j : ℕ) (l : ℤ) → direct_latency block i j ≡ Some l → IsDirect block i j l
direct_latency_is block i j l e =
    (let w = masked_is (is_direct block i j) (latency block i j) l e in record { direct = w.0; is = w.1 })

pub direct_latency_of : (block : List Insn) (i j : ℕ) (l : ℤ) → IsDirect block i j l → direct_latency block i j ≡ Some l
direct_latency_of block i j l d = of_masked (is_direct block i j) (latency block i j) l d.direct d.is

flat_map_same : {A : Type 0} (f g : ℕ → List A) (xs : List ℕ) → ((k : ℕ) → f k ≡ g k) → flat_map f xs ≡ flat_map g xs
flat_map_same f g [] same = refl
flat_map_same f g (x ∷ xs) same = rw (same x, flat_map_same f g xs same) refl

-- ---- the lists, number by number

pub needs_pieces : (block : List Insn) (j : ℕ)
    → direct_needs block j ≡ flat_map (λ i. linked i (direct_latency block i j)) (range_with_len 0 j)
unfolding direct_needs
needs_pieces block j =
    flat_map_same (λ i. linked_if (is_direct block i j) i (latency block i j))
    (λ i. linked i (direct_latency block i j)) (range_with_len 0 j)
    (λ i. linked_masked (is_direct block i j) i (latency block i j))

pub before_pieces : (block : List Insn) (i n : ℕ)
    → direct_before block i n ≡ flat_map (λ j. linked j (direct_latency block i j)) (range_with_len 0 n)
unfolding is_direct
before_pieces block i zero = refl
before_pieces block i (suc n) =
    pieces_more (λ j. linked j (direct_latency block i j)) 0 n (suc n) n (direct_before block i n)
    (direct_before block i n ++ linked_if (is_direct block i n) n (latency block i n)) (omega arith) (omega arith)
    (before_pieces block i n)
    (ap (λ (links : List Link). direct_before block i n ++ links)
    (linked_masked (is_direct block i n) n (latency block i n)))

pub followers_pieces : (block : List Insn) (i : ℕ)
    → direct_followers block i ≡ flat_map (λ j. linked j (direct_latency block i j))
    (range_with_len 0 (length block))
unfolding direct_followers
followers_pieces block i = before_pieces block i (length block)

-- ---- they have each direct dependence once

pub direct_needs_are : (block : List Insn) (j : ℕ)
    → AreLinks (λ link. IsDirect block link.number j link.latency) (direct_needs block j)
direct_needs_are block j = rw (needs_pieces block j) (record {
  all = All-weaker (Tells told) (λ link. IsDirect block link.number j link.latency)
      (λ link e. direct_latency_is block link.number j link.latency e)
      (flat_map (λ k. linked k (told k)) (range_with_len 0 j)) are.all;
  each = λ link d. are.each link (direct_latency_of block link.number j link.latency d);
  rising = are.rising;
})
  where
    told : ℕ → Option ℤ
    told i = direct_latency block i j

    are : AreLinks (Tells told) (flat_map (λ i. linked i (told i)) (range_with_len 0 j))
    are = pieces_are told 0 j
        (λ i l e. (omega arith, omega (arith, (short_is block i j l (direct_latency_is block i j l e).is).before)))

pub direct_followers_are : (block : List Insn) (i : ℕ)
    → AreLinks (λ link. IsDirect block i link.number link.latency) (direct_followers block i)
direct_followers_are block i = rw (followers_pieces block i) (record {
  all = All-weaker (Tells told) (λ link. IsDirect block i link.number link.latency)
      (λ link e. direct_latency_is block i link.number link.latency e)
      (flat_map (λ k. linked k (told k)) (range_with_len 0 (length block))) are.all;
  each = λ link d. are.each link (direct_latency_of block i link.number link.latency d);
  rising = are.rising;
})
  where
    told : ℕ → Option ℤ
    told j = direct_latency block i j

    are : AreLinks (Tells told) (flat_map (λ j. linked j (told j)) (range_with_len 0 (length block)))
    are = pieces_are told 0 (length block)
        (λ j l e. (omega arith, omega (arith, (short_is block i j l (direct_latency_is block i j l e).is).within)))
