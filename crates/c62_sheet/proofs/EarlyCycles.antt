-- The first cycle in which all bounds are kept, as far as a walk has come.
use Rattle.c62_sheet.proofs.Common.{refl, arith, ◌≡◌, ℕ, max, ◌+◌, ◌<◌, ◌≤◌, List, length, get_or, Some, ints}
use Rattle.c62_sheet.proofs.Common.{get_or_default, Insn, Link, short_is}
use Rattle.c62_sheet.proofs.Common.{Spot, Spots, IsAt, IsEarly, IsDirectEarly, All-get_or, direct_needs}
use Rattle.c62_sheet.proofs.Common.{direct_needs_are, IsDirect, Contains, IsShort, latency}
use Rattle.c62_sheet.proofs.Common.{ℤ, pos, ◌+ℤ◌, cases_lt, inl, inr}
use Rattle.std.specs.Prelude.{◌≤ℤ◌}
use Rattle.c62_sheet.specs.Early.{IsAfterLink, IsBoundBy, IsFirstBehind}
use Rattle.c62_sheet.proofs.Founding.{latency_from, latency_bounds}

-- the least cycle in which the bounds of the first n links are kept
pub record IsEarlyBelow (set : Spots) (links : List Link) (n cycle : ℕ) : Type 0 where
  pub after : (k : ℕ) (d : Link) → k < n → IsAfterLink set (get_or links k d) cycle
  pub least : (other : ℕ) → ((k : ℕ) (d : Link) → k < n → IsAfterLink set (get_or links k d) other) → cycle ≤ other

pub early-more : {set : Spots} {links : List Link} {n cycle m : ℕ} (d : Link) → n < length links
    → IsEarlyBelow set links n cycle
    → IsBoundBy set (get_or links n d) m → IsEarlyBelow set links (n + 1) (max cycle m)
early-more {set} {links} {n} {cycle} {m} d in_links early bound = record {
  after = λ k e lt s at. grind (arith, ints, early.after k e, bound.after s, get_or_default links n e d);
  least = λ other all.
      let low = early.least other (λ k e lt. all k e (omega (arith, lt))) in
      let high = bound.least other (all n d (omega arith)) in
      omega arith;
}

-- the direct dependences of an instruction, of which each goes to an earlier number and is short
module _ (block : List Insn) (i : ℕ) (links : List Link) (is : links ≡ direct_needs block i) where
  need_at : (k : ℕ) (d : Link) → k < length links
      → IsDirect block (get_or links k d).number i (get_or links k d).latency
  need_at k d lt = All-get_or (λ (x : Link). IsDirect block x.number i x.latency) links k d lt
      (rw is (direct_needs_are block i).all)

  pub need_short : (k : ℕ) (d : Link) → k < length links
      → IsShort block (get_or links k d).number i (get_or links k d).latency
  need_short k d lt = short_is block (get_or links k d).number i (get_or links k d).latency (need_at k d lt).is

  pub early_of : (set : Spots) (n cycle : ℕ) → length links ≤ n → n ≤ length links → IsEarlyBelow set links n cycle
      → IsDirectEarly block set i cycle
  early_of set n cycle all few e = record {
    after = λ h l s d at.
        let link : Link = record { number = h; latency = l } in
        let there : Contains links link = rw is ((direct_needs_are block i).each link d) in
        let kept : IsAfterLink set link cycle = rw there.2 at (e.after there.0 link (omega (arith, there.1, all))) in
        kept s at;
    least = λ other after. e.least other (λ k d lt s at.
        let link : Link = get_or links k d in
        after link.number link.latency s (need_at k d (omega (arith, lt, few))) at);
  }

-- ---- over all numbers

-- the least cycle in which the latencies from the numbers below n are over
pub record IsEarlyFrom (block : List Insn) (set : Spots) (i n cycle : ℕ) : Type 0 where
  pub after : (h : ℕ) (cycles : ℤ) (s : Spot) → h < n → latency block h i ≡ Some cycles → IsAt set h s
      → (pos s.cycle +ℤ cycles) ≤ℤ pos cycle
  pub least : (other : ℕ)
      → ((h : ℕ) (cycles : ℤ) (s : Spot) → h < n → latency block h i ≡ Some cycles → IsAt set h s
      → (pos s.cycle +ℤ cycles) ≤ℤ pos other)
      → cycle ≤ other

within_max : (c : ℕ) (l : ℤ) (a m : ℕ) → (pos c +ℤ l) ≤ℤ pos a → a ≤ m → (pos c +ℤ l) ≤ℤ pos m
within_max c l a m low le = omega (arith, ints, low, le)

pub early_from-more : (block : List Insn) (set : Spots) (i n cycle m : ℕ) → IsEarlyFrom block set i n cycle
    → IsFirstBehind set n (latency block n i) m
    → IsEarlyFrom block set i (n + 1) (max cycle m)
early_from-more block set i n cycle m early bound = record {
  after = λ h l s lt e at. elim (cases_lt h n) [
    | inl before ↦ within_max s.cycle l cycle (max cycle m) (early.after h l s before e at) (omega arith)
    | inr last ↦
        let same : h ≡ n = omega (arith, lt, last) in
        within_max s.cycle l m (max cycle m) (bound.after l s (rw same at e) (rw same at at)) (omega arith)
  ];
  least = λ other all.
      let low = early.least other (λ h l s lt e at. all h l s (omega (arith, lt)) e at) in
      let high = bound.least other (λ l s e at. all n l s (omega arith) e at) in
      omega arith;
}

pub early_from-all : (block : List Insn) (set : Spots) (i n cycle : ℕ) → i ≤ n → IsEarlyFrom block set i n cycle
    → IsEarly block set i cycle
early_from-all block set i n cycle all early = record {
  after = λ h bound s w at.
      let l = latency_from block h i (latency block h i) refl (bound, w) in
      let before : h < i = w.before in
      let kept : (pos s.cycle +ℤ l.0) ≤ℤ pos cycle = early.after h l.0 s (omega (arith, before, all)) l.1 at in
      let low : bound ≤ℤ l.0 = l.2.greatest bound w in
      omega (arith, ints, kept, low);
  least = λ other after. early.least other (λ h l s lt e at. after h l s (latency_bounds block h i l e) at);
}
