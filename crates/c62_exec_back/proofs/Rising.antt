-- Placed instructions, each behind those before it in the order of a listing.
use Rattle.std.proofs.Common.{◌≡◌, ℕ, zero, suc, ◌+◌, ◌<◌, ◌≤◌, List, [], ◌∷◌, ◌++◌, refl, sym, ◌∙◌, ap, subst, inl}
use Rattle.std.proofs.Common.{inr, arith}
use Rattle.std.specs.Prelude.{map, slice_index}
use Rattle.std.specs.List.Sorted.{IsStrictlyIncreasing}
use Rattle.std.proofs.lemmas.List.Elements.{All-contains}
use Rattle.std.proofs.lemmas.List.{map-append}
use Rattle.c62_op.specs.Units.{index_of}
use Rattle.c62_op.proofs.UnitOrder.{index_of-below}
use Rattle.c62_packet.specs.declared.placed.Placed.{Placed}
use Rattle.c62_packet.specs.Packed.{IsPacketBlock, Packed, listing_position}
use Rattle.c62_meaning.proofs.Lookup.{In, Contains_from_In, In-append_cases}
use Rattle.c62_meaning.proofs.CutWords.{from_map}
use Rattle.c62_meaning.specs.Cut.{moved}
use Rattle.c62_flight.specs.Text.{Text, row_of}
use Rattle.c62_flight.specs.Issued.{issue_in, issued_on}
use Rattle.c62_flight.specs.Laid.{straight}
use Rattle.c62_adopt.proofs.SortedLemmas.{Rises, rises}

abbrev pub Rising : List Placed → Type 0
Rising [] = Unit {0}
Rising (p ∷ placed) = ((q : Placed) → In q placed → listing_position p < listing_position q) × Rising placed

-- ---- lists that rise and have the same members are one

same_first : (p q : Placed) (placed others : List Placed) → Rising (p ∷ placed) → Rising (q ∷ others)
    → In p (q ∷ others) → In q (p ∷ placed) → p ≡ q
same_first p q placed others up over (inl e) here = sym e
same_first p q placed others up over (inr behind) (inl e) = e
same_first p q placed others up over (inr behind) (inr later) = absurd
    (let less = over.0 p behind in let more = up.0 q later in omega (arith, less, more))

in_rest : (p : Placed) (placed others : List Placed) → Rising (p ∷ placed)
    → ((q : Placed) → In q (p ∷ placed) → In q (p ∷ others)) → (q : Placed) → In q placed → In q others
in_rest p placed others up all q there = by (all q (inr there))
  where
    by : In q (p ∷ others) → In q others
    by (inr h) = h
    by (inl e) = absurd (let less = up.0 q there in let same = ap listing_position e in omega (arith, less, same))

pub same_rising : (placed others : List Placed) → Rising placed → Rising others
    → ((q : Placed) → In q placed → In q others) → ((q : Placed) → In q others → In q placed) → placed ≡ others
same_rising [] [] up over to from = refl
same_rising [] (q ∷ others) up over to from = absurd (from q (inl refl))
same_rising (p ∷ placed) [] up over to from = absurd (to p (inl refl))
same_rising (p ∷ placed) (q ∷ others) up over to from =
    let same : p ≡ q = same_first p q placed others up over (to p (inl refl)) (from q (inl refl)) in
    let there = subst (λ (r : Placed). (s : Placed) → In s (p ∷ placed) → In s (r ∷ others)) (sym same) to in
    let here = subst (λ (r : Placed). (s : Placed) → In s (r ∷ others) → In s (p ∷ placed)) (sym same) from in
    let rise = subst (λ (r : Placed). Rising (r ∷ others)) (sym same) over in
    let rest : placed ≡ others = same_rising placed others up.1 over.1 (in_rest p placed others up there)
    (in_rest p others placed rise here) in
    cc

-- ---- the instructions of a block

from_rises : (placed : List Placed) → Rises placed → Rising placed
from_rises [] up = tt
from_rises (p ∷ placed) up = (
  λ q h. All-contains (λ (r : Placed). listing_position p < listing_position r) placed q up.0
      (Contains_from_In q placed h),
  from_rises placed up.1,
)

pub block_rises : (block : Packed) → IsPacketBlock block → Rising block.placed
block_rises block is = from_rises block.placed (rises block.placed is.in_order is.rules)

-- ---- those of rows one behind the other

abbrev pub UnitsRise : List Placed → Type 0
UnitsRise [] = Unit {0}
UnitsRise (p ∷ placed) = ((q : Placed) → In q placed → index_of p.unit < index_of q.unit) × UnitsRise placed

next_place : (x : ℕ) (xs : List ℕ) (k : ℕ) → slice_index (x ∷ xs) (k + 1) ≡ slice_index xs k
next_place x xs k = let e : k + 1 ≡ suc k = omega arith in ap (slice_index (x ∷ xs)) e

first_rises : (p q : Placed) (placed : List Placed) → index_of p.unit < index_of q.unit → UnitsRise (q ∷ placed)
    → (x : Placed) → In x (q ∷ placed) → index_of p.unit < index_of x.unit
first_rises p q placed least rest x (inl e) = subst (λ (r : Placed). index_of p.unit < index_of r.unit) e least
first_rises p q placed least rest x (inr h) = let more = rest.0 x h in omega (arith, least, more)

pub units_rise : (placed : List Placed) → IsStrictlyIncreasing (map (λ p. index_of p.unit) placed) → UnitsRise placed
units_rise [] up = tt
units_rise (p ∷ []) up = (λ q h. absurd h, tt)
units_rise (p ∷ q ∷ placed) up =
    let rest : UnitsRise (q ∷ placed) = units_rise (q ∷ placed) (λ k low.
    let less = up (k + 1) (omega (arith, low)) in
    let one = next_place (index_of p.unit) (map (λ (r : Placed). index_of r.unit) (q ∷ placed)) k in
    let other = next_place (index_of p.unit) (map (λ (r : Placed). index_of r.unit) (q ∷ placed)) (k + 1) in
    omega (arith, less, one, other)) in
    (first_rises p q placed (up 0 (omega arith)) rest, rest)

rising_append : (xs ys : List Placed) → Rising xs → Rising ys
    → ((x y : Placed) → In x xs → In y ys → listing_position x < listing_position y) → Rising (xs ++ ys)
rising_append [] ys up over apart = over
rising_append (x ∷ xs) ys up over apart = (
  λ q h. elim (In-append_cases q xs ys h) [
    | inl a ↦ up.0 q a
    | inr b ↦ apart x q (inl refl) b
  ],
  rising_append xs ys up.1 over (λ a b h k. apart a b (inr h) k),
)

-- issued in one cycle
row_rises : (lead cycle : ℕ) (insns : List Placed) → UnitsRise insns
    → Rising (map (moved lead) (map (issue_in cycle) insns))
row_rises lead cycle [] up = tt
row_rises lead cycle (p ∷ insns) up = (later, row_rises lead cycle insns up.1)
  where
    later : (q : Placed) → In q (map (moved lead) (map (issue_in cycle) insns))
        → listing_position (moved lead (issue_in cycle p)) < listing_position q
    later q h =
        let one = from_map (moved lead) q (map (issue_in cycle) insns) h in
        let two = from_map (issue_in cycle) one.0 insns one.1 in
        let less : index_of p.unit < index_of two.0.unit = up.0 two.0 two.1 in
        let whole : moved lead (issue_in cycle two.0) ≡ q = ap (moved lead) two.2 ∙ one.2 in
        subst (λ (r : Placed). listing_position (moved lead (issue_in cycle p)) < listing_position r) whole
        (omega (arith, less))

cycle_in : (lead cycle : ℕ) (insns : List Placed) (q : Placed) → In q (map (moved lead) (map (issue_in cycle) insns))
    → q.cycle ≡ lead + cycle
cycle_in lead cycle insns q h =
    let one = from_map (moved lead) q (map (issue_in cycle) insns) h in
    let two = from_map (issue_in cycle) one.0 insns one.1 in
    let whole : moved lead (issue_in cycle two.0) ≡ q = ap (moved lead) two.2 ∙ one.2 in
    ap (λ (r : Placed). r.cycle) (sym whole)

module _ (text : Text) (lead : ℕ) where
  late_in : (row start count : ℕ) (q : Placed)
      → In q (map (moved lead) (issued_on text (straight text row start count))) → lead + start ≤ q.cycle
  late_in row start zero q h = absurd h
  late_in row start (suc count) q h =
      let idle : ℕ = (row_of text row).idle in
      let parted = map-append (moved lead) (map (issue_in start) (row_of text row).insns)
      (issued_on text (straight text (row + 1) (start + idle + 1) count)) in
      elim (In-append_cases q (map (moved lead) (map (issue_in start) (row_of text row).insns))
      (map (moved lead) (issued_on text (straight text (row + 1) (start + idle + 1) count)))
      (subst (In q) parted h)) [
        | inl a ↦ (let e = cycle_in lead start (row_of text row).insns q a in omega (arith, e))
        | inr b ↦ (let l = late_in (row + 1) (start + idle + 1) count q b in omega (arith, l))
      ]

  pub rows_rise : (row start count : ℕ) → ((number : ℕ) → UnitsRise (row_of text number).insns)
      → Rising (map (moved lead) (issued_on text (straight text row start count)))
  rows_rise row start zero all = tt
  rows_rise row start (suc count) all =
      let idle : ℕ = (row_of text row).idle in
      let first : List Placed = map (moved lead) (map (issue_in start) (row_of text row).insns) in
      let rest : List Placed = map (moved lead) (issued_on text (straight text (row + 1) (start + idle + 1) count)) in
      let parted = map-append (moved lead) (map (issue_in start) (row_of text row).insns)
      (issued_on text (straight text (row + 1) (start + idle + 1) count)) in
      subst Rising (sym parted)
      (rising_append first rest (row_rises lead start (row_of text row).insns (all row))
      (rows_rise (row + 1) (start + idle + 1) count all)
      (λ x y a b.
      let e = cycle_in lead start (row_of text row).insns x a in
      let l = late_in (row + 1) (start + idle + 1) count y b in
      let one = index_of-below x.unit in
      omega (arith, e, l, one)))
