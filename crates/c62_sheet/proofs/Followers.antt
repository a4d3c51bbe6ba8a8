-- Early cycles, and how they change along the dependences of one number.
use Rattle.std.specs.Prelude.{◌≤ℤ◌, replicate}
use Rattle.c62_sheet.proofs.Common.{arith, ints, nat_tests, ◌≡◌, ◌≢◌, ℕ, ◌+◌, ◌<◌, ◌≤◌, max, ℤ, pos, ◌+ℤ◌, List, length}
use Rattle.c62_sheet.proofs.Common.{take, get_or, None, Some}
use Rattle.c62_sheet.proofs.Common.{[], refl, sym, ap, ◌∙◌, inl, inr, ◌⊎◌, Option, Insn, Link, Spot, Spots, spot_at}
use Rattle.c62_sheet.proofs.Common.{placed, withdrawn, nothing_placed}
use Rattle.c62_sheet.proofs.Common.{DependsDirectly, IsDirect, IsDirectEarly, direct_followers, direct_latency}
use Rattle.c62_sheet.proofs.Common.{direct_latency_is, direct_latency_of, times, slice_index}
use Rattle.c62_sheet.proofs.Common.{slice_set, get_or-set_same, get_or-set_other, length-set, none-some, same_Some}
use Rattle.c62_sheet.proofs.Common.{cases_eq, cases_lt, take_all, get_or-replicate, length-replicate}
use Rattle.c62_sheet.specs.Early.{AreEarly, AreEarlyBut}
use Rattle.c62_sheet.proofs.Sets.{IsAt-placed, spot_at-placed_same, spot_at-placed_other, spot_at-withdrawn_other}
use Rattle.c62_sheet.proofs.Sets.{nothing_at}
use Rattle.c62_sheet.proofs.Missing.{share, times-followers}
use Rattle.c62_sheet.proofs.CountWalks.{times-more}

-- ---- followers, by how often they stand among dependences

depends_at : (block : List Insn) (i j : ℕ) (o : Option ℤ) → direct_latency block i j ≡ o → 0 < share o
    → DependsDirectly block i j
depends_at block i j None e some = absurd (omega (arith, some))
depends_at block i j (Some l) e some = (l, direct_latency_is block i j l e)

pub follower_depends : (block : List Insn) (i j : ℕ) → 0 < times j (direct_followers block i)
    → DependsDirectly block i j
follower_depends block i j some = depends_at block i j (direct_latency block i j) refl
    (omega (arith, some, times-followers block i j))

pub other_not : (block : List Insn) (i j : ℕ) → times j (direct_followers block i) ≡ 0 → DependsDirectly block i j → ⊥
other_not block i j none dep =
    let one : share (direct_latency block i j) ≡ 1 = ap share (direct_latency_of block i j dep.0 dep.1) in
    omega (arith, none, times-followers block i j, one)

-- ---- a walk along followers that writes a number for each

-- a number for each of the block, of which those of the followers that were met are new
pub record AreWalked (block : List Insn) (Before After : ℕ → ℕ
    → Type 0) (met : List Link) (cycles : List ℕ) : Type 0 where
  pub sized : length cycles ≡ length block
  pub left : (j : ℕ) → j < length block → times j met ≡ 0 → Before j (slice_index cycles j)
  pub new : (j : ℕ) → j < length block → 0 < times j met → After j (slice_index cycles j)

pub walked-none : (block : List Insn) (Before After : ℕ → ℕ → Type 0) (cycles : List ℕ) → length cycles ≡ length block
    → ((j : ℕ) → j < length block → Before j (slice_index cycles j)) → AreWalked block Before After [] cycles
walked-none block Before After cycles sized before = record {
  sized = sized;
  left = λ j low none. before j low;
  new = λ j low some. absurd (omega (arith, some));
}

module _ (block : List Insn) (Before After : ℕ → ℕ
    → Type 0) (links : List Link) (k : ℕ) (d : Link) (cycles : List ℕ) (n : ℕ) (lt : k < length links)
    (at : n ≡ (get_or links k d).number) where
  met_here : 0 < times n (take (k + 1) links)
  met_here = grind (arith, nat_tests, times-more links cycles cycles k d lt n)

  met_other : (j : ℕ) → j ≢ n → times j (take (k + 1) links) ≡ times j (take k links)
  met_other j ne = grind (arith, nat_tests, times-more links cycles cycles k d lt j)

  pub walked-more : (cycle : ℕ) → n < length block → AreWalked block Before After (take k links) cycles
      → (Before n (slice_index cycles n) ⊎ After n (slice_index cycles n) → After n cycle)
      → AreWalked block Before After (take (k + 1) links) (slice_set cycles n cycle)
  walked-more cycle within walked step = record {
    sized = length-set cycles n cycle ∙ walked.sized;
    left = λ j low none. elim (cases_eq j n) [
      | inl e ↦ (let some : 0 < times j (take (k + 1) links) = rw e met_here in absurd (omega (arith, some, none)))
      | inr ne ↦ rw (get_or-set_other cycles n j cycle 0 ne) (walked.left j low (omega (arith, none, met_other j ne)))
    ];
    new = λ j low some. elim (cases_eq j n) [
      | inl e ↦ rw (e, get_or-set_same cycles n cycle 0 (omega (arith, within, walked.sized)))
          (step (before_or_after walked))
      | inr ne ↦ rw (get_or-set_other cycles n j cycle 0 ne) (walked.new j low (omega (arith, some, met_other j ne)))
    ];
  }
    where
      before_or_after : AreWalked block Before After (take k links) cycles → Before n (slice_index cycles n)
          ⊎ After n (slice_index cycles n)
      before_or_after w = elim (cases_lt 0 (times n (take k links))) [
        | inl some ↦ inr (w.new n within some)
        | inr none ↦ inl (w.left n within (omega (arith, none)))
      ]

-- ---- one is placed

over_later : (z : ℤ) (a b : ℕ) → z ≤ℤ pos a → a ≤ b → z ≤ℤ pos b
over_later z a b over le = omega (arith, ints, over, le)

over_by : (c a b : ℕ) (bound l : ℤ) → l ≡ bound → (pos c +ℤ l) ≤ℤ pos a → a ≤ b → (pos c +ℤ bound) ≤ℤ pos b
over_by c a b bound l same over le = omega (arith, ints, same, over, le)

-- only what j does not depend on directly changed
early-same : (block : List Insn) (set other : Spots) (j cycle : ℕ)
    → ((h : ℕ) → DependsDirectly block h j → spot_at other h ≡ spot_at set h)
    → IsDirectEarly block set j cycle → IsDirectEarly block other j cycle
early-same block set other j cycle same early = record {
  after = λ h bound s w at. early.after h bound s w (sym (same h (bound, w)) ∙ at);
  least = λ c all. early.least c (λ h bound s w at. all h bound s w (same h (bound, w) ∙ at));
}

module _ (block : List Insn) (set : Spots) (i : ℕ) (s : Spot) (lt : i < length set) (free : spot_at set i ≡ None) where
  early-other : (j cycle : ℕ) → (DependsDirectly block i j → ⊥) → IsDirectEarly block set j cycle
      → IsDirectEarly block (placed set i s) j cycle
  early-other j cycle out early =
      early-same block set (placed set i s) j cycle (λ h dep. spot_at-placed_other set i h s (λ e. out (rw e at dep)))
      early

  module _ (j cycle first : ℕ) (l : ℤ) (is : IsDirect block i j l) (after : (pos s.cycle +ℤ l) ≤ℤ pos first)
      (least : (other : ℕ) → (pos s.cycle +ℤ l) ≤ℤ pos other → first ≤ other) where
    early-raised : IsDirectEarly block set j cycle → IsDirectEarly block (placed set i s) j (max cycle first)
    early-raised early = record {
      after = λ h bound t w at. elim (IsAt-placed set i h s t lt at) [
        | inl here ↦
            let direct : IsDirect block i j bound = rw here.0 at w in
            let same : l ≡ bound = same_Some l bound (sym is.is ∙ direct.is) in
            rw here.1 (over_by s.cycle first (max cycle first) bound l same after (omega arith))
        | inr there ↦ over_later (pos t.cycle +ℤ bound) cycle (max cycle first) (early.after h bound t w there.1)
            (omega arith)
      ];
      least = λ other all.
          let low = early.least other (λ h bound t w at. all h bound t w (spot_at-placed_other set i h s
          (λ e. none-some t (sym free ∙ rw e at at)) ∙ at)) in
          let high = least other (all i l s is (spot_at-placed_same set i s lt)) in
          omega arith;
    }

    early-again : IsDirectEarly block (placed set i s) j cycle
        → IsDirectEarly block (placed set i s) j (max cycle first)
    early-again early =
        let high = least cycle (early.after i l s is (spot_at-placed_same set i s lt)) in
        let same : max cycle first ≡ cycle = omega (arith, high) in
        rw same early

    pub early-either : IsDirectEarly block set j cycle ⊎ IsDirectEarly block (placed set i s) j cycle
        → IsDirectEarly block (placed set i s) j (max cycle first)
    early-either (inl early) = early-raised early
    early-either (inr early) = early-again early

  -- all followers were met
  pub early-placed : (links : List Link) (n : ℕ) (earliest : List ℕ) → links ≡ direct_followers block i
      → length links ≤ n
      → AreWalked block (IsDirectEarly block set) (IsDirectEarly block (placed set i s)) (take n links) earliest
      → AreEarly block (placed set i s) earliest
  early-placed links n earliest is all some-walked =
      let walked : AreWalked block (IsDirectEarly block set) (IsDirectEarly block (placed set i s))
      (direct_followers block i) earliest = rw (take_all n links all, is) at some-walked in
      record {
        sized = walked.sized;
        each = λ j low. elim (cases_lt 0 (times j (direct_followers block i))) [
          | inl some ↦ walked.new j low some
          | inr none ↦
              let zero : times j (direct_followers block i) ≡ 0 = omega (arith, none) in
              early-other j (slice_index earliest j) (other_not block i j zero) (walked.left j low zero)
        ];
      }

-- ---- one is taken out

-- what does not depend directly on i is as early without it
pub early-without : (block : List Insn) (set : Spots) (i : ℕ) (earliest : List ℕ) → AreEarly block set earliest
    → AreEarlyBut block i (withdrawn set i) earliest
early-without block set i earliest early = record {
  sized = early.sized;
  each = λ j low out. early-same block set (withdrawn set i) j (slice_index earliest j)
      (λ h dep. spot_at-withdrawn_other set i h (λ e. out (rw e at dep))) (early.each j low);
}

-- the number is early where it does not depend directly on i
abbrev pub IsEarlyBut : List Insn → ℕ → Spots → ℕ → ℕ → Type 0
IsEarlyBut block i set j cycle = (DependsDirectly block i j → ⊥) → IsDirectEarly block set j cycle

pub early-found : (block : List Insn) (set : Spots) (i : ℕ) (links : List Link) (n : ℕ) (earliest : List ℕ)
    → links ≡ direct_followers block i
    → length links ≤ n → AreWalked block (IsEarlyBut block i set) (IsDirectEarly block set) (take n links) earliest
    → AreEarly block set earliest
early-found block set i links n earliest is all some-walked =
    let walked : AreWalked block (IsEarlyBut block i set) (IsDirectEarly block set) (direct_followers block i)
    earliest = rw (take_all n links all, is) at some-walked in
    record {
      sized = walked.sized;
      each = λ j low. elim (cases_lt 0 (times j (direct_followers block i))) [
        | inl some ↦ walked.new j low some
        | inr none ↦ (let zero : times j (direct_followers block i) ≡ 0 = omega (arith, none) in walked.left j low zero
            (other_not block i j zero))
      ];
    }

-- ---- nothing is placed

pub early-nothing : (block : List Insn) (j cycle : ℕ) → cycle ≡ 0
    → IsDirectEarly block (nothing_placed (length block)) j cycle
early-nothing block j cycle zero = record {
  after = λ h bound s w at. absurd (none-some s (sym (nothing_at (length block) h) ∙ at));
  least = λ other all. omega (arith, zero);
}

pub early-nothings : (block : List Insn) (n : ℕ) → n ≡ length block
    → AreEarly block (nothing_placed (length block)) (replicate n 0)
early-nothings block n sized = record {
  sized = length-replicate n 0 ∙ sized;
  each = λ j low. early-nothing block j _ (get_or-replicate n j 0 0 (omega (arith, low, sized)));
}
