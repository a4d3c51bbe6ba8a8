-- Heights by direct dependences are those by all.
use Rattle.c62_depend.proofs.Common.{◌≡◌, ℕ, zero, suc, ◌+◌, ◌-◌, ◌<◌, ◌≤◌, max, ℤ, pos, ◌+ℤ◌, ◌≤ℤ◌, Bool, true, false}
use Rattle.c62_depend.proofs.Common.{List, [], ◌∷◌, ◌++◌, length, take, get_or, Option, Some, None}
use Rattle.c62_depend.proofs.Common.{refl, sym, ap, ◌∙◌, arith, inl, inr, ◌⊎◌, ints, All, All-contains, All-weaker}
use Rattle.c62_depend.proofs.Common.{Contains, Contains-append_left, Contains-append_right, not, cases_lt, slice_index}
use Rattle.c62_depend.proofs.Common.{Insn, Link, latency, linked, raised, delay_at, longest, height, IsHeight}
use Rattle.c62_depend.proofs.Common.{AreHeightsFrom}
use Rattle.c62_depend.specs.Direct.{linked_if, direct_before}
unfoldable use Rattle.c62_depend.specs.Direct.{is_direct, direct_followers}
use Rattle.std.proofs.lemmas.List.{take_all}
use Rattle.std.proofs.lemmas.List.Elements.{All-get_or}
use Rattle.c62_depend.proofs.Common.{Uses, insns_in}
use Rattle.c62_depend.proofs.Latencies.{many_uses}
use Rattle.c62_depend.proofs.Plans.{short_is}
use Rattle.c62_depend.proofs.BranchRelays.{IsLinkBefore, links_before}
use Rattle.c62_depend.proofs.AllRelays.{relayed_latency}
use Rattle.c62_depend.proofs.Rules.{height_is, longest-least, longest-each, longest-reached, raised-exact, first_in}
use Rattle.c62_depend.proofs.Rules.{Reaches}
use Rattle.c62_depend.proofs.Heights.{longest_below, longest_same}

-- a direct dependence stands in the list
pub link_listed : (block : List Insn) (i n j : ℕ) (l : ℤ) → j < n → is_direct block i j ≡ true
    → latency block i j ≡ Some l
    → Contains (direct_before block i n) (record { number = j; latency = l })
unfolding is_direct
link_listed block i zero j l low direct is = absurd (omega (arith, low))
link_listed block i (suc n) j l low direct is = elim (cases_lt j n) [
  | inl before ↦ Contains-append_left (direct_before block i n) _ (record { number = j; latency = l })
      (link_listed block i n j l before direct is)
  | inr last ↦
      let here : n ≡ j = omega (arith, low, last) in
      Contains-append_right (direct_before block i n) _ (record { number = j; latency = l })
      (rw (here, direct, is) (first_in (record { number = j; latency = l }) []))
]

raised_low : (l : ℤ) (h m : ℕ) → (l +ℤ pos h) ≤ℤ pos m → raised l h ≤ m
raised_low l h m low = grind (arith, ints)

raised_high : (l : ℤ) (h m : ℕ) → raised l h ≤ m → (l +ℤ pos h) ≤ℤ pos m
raised_high l h m low = grind (arith, ints)

module _ (block : List Insn) (i : ℕ) (within : i < length block) where
  abbrev pub most : ℕ
  most = longest (height block) (delay_at block i) (direct_followers block i)

  -- what a dependence asks for is reached by direct ones
  reached : (far j : ℕ) (cycles : ℤ) → j ≤ i + far → latency block i j ≡ Some cycles
      → (cycles +ℤ pos (height block j)) ≤ℤ pos most
  unfolding direct_followers
  reached zero j cycles near e = absurd (omega (arith, near, (short_is block i j cycles e).before))
  reached (suc far) j cycles near e = by_test (λ m b close is. reached far m b close is) (is_direct block i j) refl
    where
      by_test : ((m : ℕ) (b : ℤ) → m ≤ i + far → latency block i m ≡ Some b → (b +ℤ pos (height block m)) ≤ℤ pos most)
          → (t : Bool) → is_direct block i j ≡ t → (cycles +ℤ pos (height block j)) ≤ℤ pos most
      by_test reach true direct =
          raised_high cycles (height block j) most
          (All-contains (λ (link : Link). raised link.latency (height block link.number) ≤ most)
          (direct_followers block i)
          (record { number = j; latency = cycles })
          (longest-each (height block) (delay_at block i) (direct_followers block i))
          (link_listed block i (length block) j cycles (short_is block i j cycles e).within direct e))
      by_test reach false none =
          let r = relayed_latency block i j cycles e none in
          let before : r.by < j = r.before in
          let inside : r.by < length block = omega (arith, before, (short_is block i j cycles e).within) in
          let first = reach r.by r.first (omega arith) r.is_first in
          let second = (height_is block r.by inside).above j r.second r.is_second in
          let enough : cycles ≤ℤ (r.first +ℤ r.second) = r.enough in
          omega (arith, ints, first, second, enough)

  -- the height is the greatest over direct dependences
  pub direct_height : height block i ≡ most
  unfolding direct_followers
  direct_height = omega (arith, low, high (height_is block i within).attained)
    where
      low : most ≤ height block i
      low =
          longest_below (height block) (delay_at block i) (height block i) (direct_followers block i)
          (height_is block i within).delay
          (All-weaker (IsLinkBefore block i (length block))
          (λ link. raised link.latency (height block link.number) ≤ height block i)
          (λ link is. raised_low link.latency (height block link.number) (height block i)
          ((height_is block i within).above link.number link.latency is.is))
          (direct_followers block i) (links_before block i (length block)))

      high : (height block i ≡ delay_at block i)
          ⊎ ((j : ℕ) × (cycles : ℤ) × (latency block i j ≡ Some cycles)
          × (cycles +ℤ pos (height block j) ≡ pos (height block i))) → height block i ≤ most
      high (inl e) = omega (arith, e, longest-least (height block) (delay_at block i) (direct_followers block i))
      high (inr (j, cycles, e, sum)) = omega (arith, ints, sum, reached j j cycles (omega arith) e)

  -- and is the delay, or reached along one of them
  pub direct_attained : (height block i ≡ delay_at block i)
      ⊎ ((link : Link) × Contains (direct_followers block i) link
      × (link.latency +ℤ pos (height block link.number) ≡ pos (height block i)))
  direct_attained = by_most (longest-reached (height block) (delay_at block i) (direct_followers block i))
    where
      by_most : Reaches (height block) (delay_at block i) most (direct_followers block i)
          → (height block i ≡ delay_at block i)
          ⊎ ((link : Link) × Contains (direct_followers block i) link
          × (link.latency +ℤ pos (height block link.number) ≡ pos (height block i)))
      by_most (inl e) = inl (direct_height ∙ e)
      by_most (inr w) = elim (raised-exact w.0.latency (height block w.0.number) most w.2) [
        | inl none ↦
            let least : delay_at block i ≤ height block i = (height_is block i within).delay in
            inl (omega (arith, none, least, direct_height))
        | inr sum ↦ inr (w.0, w.1, sum ∙ ap (λ (n : ℕ). pos n) (sym direct_height))
      ]

-- ---- gone over link by link

pub longest_take : (f : ℕ → ℕ) (least k : ℕ) (links : List Link) (d : Link) → k < length links
    → longest f least (take (k + 1) links) ≡ max (longest f least (take k links))
    (raised (get_or links k d).latency (f (get_or links k d).number))
longest_take f least k [] d low = absurd (omega (arith, low))
longest_take f least zero (x ∷ links) d low = refl
longest_take f least (suc k) (x ∷ links) d low =
    let next : suc k + 1 ≡ suc (k + 1) = omega arith in
    rw next (longest_take f (max least (raised x.latency (f x.number))) k links d (omega arith))

-- all are gone over
pub height_in : (block : List Insn) (i : ℕ) (heights : List ℕ) (links : List Link) → i < length block
    → links ≡ direct_followers block i
    → AreHeightsFrom block (i + 1) heights → longest (slice_index heights) (delay_at block i) links ≡ height block i
unfolding direct_followers
height_in block i heights links within is from =
    rw (is) (longest_same (slice_index heights) (height block) (delay_at block i) (direct_followers block i)
    (All-weaker (IsLinkBefore block i (length block))
    (λ link. slice_index heights link.number ≡ height block link.number)
    (λ link known. let after : i < link.number = known.after in from.are link.number (omega arith) known.before)
    (direct_followers block i) (links_before block i (length block)))) ∙ sym (direct_height block i within)

pub height_found : (uses : List Uses) (i : ℕ) (heights : List ℕ) (links : List Link) (count most : ℕ) → i < length uses
    → links ≡ direct_followers (insns_in uses) i → AreHeightsFrom (insns_in uses) (i + 1) heights → length links ≤ count
    → most ≡ longest (slice_index heights) (delay_at (insns_in uses) i) (take count links)
    → most ≡ height (insns_in uses) i
height_found uses i heights links count most within is from all e =
    e ∙ ap (longest (slice_index heights) (delay_at (insns_in uses) i)) (take_all count links all)
    ∙ height_in (insns_in uses) i heights links (omega (arith, within, many_uses uses)) is from

-- what is known of a link of the list
pub follower_at : (uses : List Uses) (i k : ℕ) (links : List Link) (d : Link)
    → links ≡ direct_followers (insns_in uses) i → k < length links
    → IsLinkBefore (insns_in uses) i (length uses) (get_or links k d)
unfolding direct_followers
follower_at uses i k links d is low =
    All-get_or (IsLinkBefore (insns_in uses) i (length uses)) links k d low
    (rw (is, ← many_uses uses) (links_before (insns_in uses) i (length (insns_in uses))))
