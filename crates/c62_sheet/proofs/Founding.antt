-- What direct dependences tell on a lawful set: all dependences are implied by chains of them.
use Rattle.c62_sheet.proofs.Common.{arith, ints, refl, subst, ◌≡◌, ◌≢◌, ℕ, ◌<◌, ℤ, pos, ◌+ℤ◌, List, Option, Some, None}
use Rattle.c62_sheet.proofs.Common.{Insn}
use Rattle.c62_sheet.proofs.Common.{Bounds, Depends, IsGreatestBound, IsLatency, latency, short_is, Spot, Spots}
use Rattle.c62_sheet.proofs.Common.{spot_at, IsAt, IsSome}
use Rattle.c62_sheet.proofs.Common.{IsLawful, IsReady, IsLast, IsAfter, IsEarly}
use Rattle.std.specs.Prelude.{◌≤ℤ◌}
use Rattle.c62_depend.specs.Direct.{IsDirect, DependsDirectly, Chain}
use Rattle.c62_depend.specs.Direct.Chain.{single, longer}
use Rattle.c62_depend.proofs.Latencies.{latency-is}
use Rattle.c62_depend.proofs.AllRelays.{direct_ones_bind}
use Rattle.c62_sheet.specs.Early.{IsAfterDirect, IsDirectEarly}
use Rattle.c62_sheet.specs.Laws.{DirectOnesTellEarly}
use Rattle.c62_sheet.proofs.Optional.{value_of_some, none_not_some}

-- ---- dependences

-- what depends on another has a latency from it
pub latency_from : (block : List Insn) (h i : ℕ) (o : Option ℤ) → latency block h i ≡ o → Depends block h i
    → (l : ℤ) × (latency block h i ≡ Some l) × IsGreatestBound block h i l
latency_from block h i None e dep = absurd (subst (IsLatency block h i) e (latency-is block h i) dep)
latency_from block h i (Some l) e dep = (l, e, subst (IsLatency block h i) e (latency-is block h i))

pub latency_bounds : (block : List Insn) (i j : ℕ) (l : ℤ) → latency block i j ≡ Some l → Bounds block i j l
latency_bounds block i j l e =
    (let g : IsGreatestBound block i j l = subst (IsLatency block i j) e (latency-is block i j) in g.applies)

-- a direct dependence is one, by its latency
pub bounds_direct : (block : List Insn) (i j : ℕ) (l : ℤ) → IsDirect block i j l → Bounds block i j l
bounds_direct block i j l d = latency_bounds block i j l d.is

pub depends_direct : (block : List Insn) (i j : ℕ) → DependsDirectly block i j → Depends block i j
depends_direct block i j w = (w.0, bounds_direct block i j w.0 w.1)

-- a chain leads along each dependence, with a sum of at least each of its bounds
pub chain_over : (block : List Insn) (i j : ℕ) (bound : ℤ) → Bounds block i j bound → (sum : ℤ) × Chain block i j sum
    × (bound ≤ℤ sum)
chain_over block i j bound w =
    let l = latency_from block i j (latency block i j) refl (bound, w) in
    let c = direct_ones_bind block i j l.0 l.1 in
    let low : bound ≤ℤ l.0 = l.2.greatest bound w in
    let high : l.0 ≤ℤ c.0 = c.2 in
    (c.0, c.1, omega (arith, ints, low, high))

pub chain_rises : (block : List Insn) (i j : ℕ) (sum : ℤ) → Chain block i j sum → i < j
chain_rises block i j _ (single _ cycles d) = (short_is block i j cycles d.is).before
chain_rises block i j _ (longer k _ sum cycles c d) =
    let up : i < k = chain_rises block i k sum c in
    let step : k < j = (short_is block k j cycles d.is).before in
    omega (arith, up, step)

none_of : (o : Option Spot) → (IsSome o → ⊥) → o ≡ None
none_of o never = grind arith

-- ---- chains on a lawful set

module _ (block : List Insn) (set : Spots) (lawful : IsLawful block set) where
  -- where the end of a chain is placed, its begin is
  pub chain_placed : (h k : ℕ) (sum : ℤ) → Chain block h k sum → IsSome (spot_at set k) → IsSome (spot_at set h)
  chain_placed h k _ (single _ cycles d) some =
      let t = value_of_some (spot_at set k) some in
      lawful.founded h k t.0 (depends_direct block h k (cycles, d)) t.1
  chain_placed h k _ (longer m _ sum cycles c d) some =
      let t = value_of_some (spot_at set k) some in
      chain_placed h m sum c (lawful.founded m k t.0 (depends_direct block m k (cycles, d)) t.1)

  -- and stands its sum later
  pub chain_kept : (h k : ℕ) (sum : ℤ) → Chain block h k sum → (s t : Spot) → IsAt set h s → IsAt set k t
      → (pos s.cycle +ℤ sum) ≤ℤ pos t.cycle
  chain_kept h k _ (single _ cycles d) s t at_h at_k = lawful.delays h k cycles s t (bounds_direct block h k cycles d)
      at_h at_k
  chain_kept h k _ (longer m _ sum cycles c d) s t at_h at_k =
      let u = value_of_some (spot_at set m) (lawful.founded m k t (depends_direct block m k (cycles, d)) at_k) in
      let first : (pos s.cycle +ℤ sum) ≤ℤ pos u.0.cycle = chain_kept h m sum c s u.0 at_h u.1 in
      let second : (pos u.0.cycle +ℤ cycles) ≤ℤ pos t.cycle = lawful.delays m k cycles u.0 t
      (bounds_direct block m k cycles d) u.1 at_k in
      omega (arith, ints, first, second)

  -- no chain leads from what no placed number depends on directly to a placed one
  no_chain : (i k : ℕ) (sum : ℤ) → ((j : ℕ) → DependsDirectly block i j → spot_at set j ≡ None) → Chain block i k sum
      → IsSome (spot_at set k) → ⊥
  no_chain i k _ none (single _ cycles d) some = none_not_some (spot_at set k) (none k (cycles, d)) some
  no_chain i k _ none (longer m _ sum cycles c d) some =
      let t = value_of_some (spot_at set k) some in
      no_chain i m sum none c (lawful.founded m k t.0 (depends_direct block m k (cycles, d)) t.1)

  pub last_directly : (i : ℕ) → ((j : ℕ) → DependsDirectly block i j → spot_at set j ≡ None) → IsLast block set i
  last_directly i none j dep =
      let c = chain_over block i j dep.0 dep.1 in
      none_of (spot_at set j) (λ some. no_chain i j c.0 none c.1 some)

  -- what depends on number i, which nothing placed depends on, and has all that it depends on directly placed, depends
  -- on i
  -- directly
  pub not_behind_last : (i k : ℕ) → IsLast block set i → ((m : ℕ) → DependsDirectly block m k → IsSome (spot_at set m))
      → (DependsDirectly block i k → ⊥)
      → Depends block i k → ⊥
  not_behind_last i k last placed out dep = (let c = chain_over block i k dep.0 dep.1 in by_chain c.0 c.1)
    where
      by_chain : (sum : ℤ) → Chain block i k sum → ⊥
      by_chain _ (single _ cycles d) = out (cycles, d)
      by_chain _ (longer m _ sum cycles c d) = no_chain i m sum (λ j w. last j (depends_direct block i j w)) c
          (placed m (cycles, d))

  -- what depends on number i, which isn't placed, and has all others that it depends on directly placed, depends on i
  -- directly
  pub not_through : (i k : ℕ) → spot_at set i ≡ None
      → ((m : ℕ) → DependsDirectly block m k → m ≢ i → IsSome (spot_at set m)) → (DependsDirectly block i k → ⊥)
      → Depends block i k → ⊥
  not_through i k free placed out dep = (let c = chain_over block i k dep.0 dep.1 in by_chain c.0 c.1)
    where
      by_chain : (sum : ℤ) → Chain block i k sum → ⊥
      by_chain _ (single _ cycles d) = out (cycles, d)
      by_chain _ (longer m _ sum cycles c d) =
          let up : i < m = chain_rises block i m sum c in
          let other : m ≢ i = λ e. absurd (omega (arith, up, e)) in
          none_not_some (spot_at set i) free (chain_placed i m sum c (placed m (cycles, d) other))

  -- ---- a number of which all that it depends on directly is placed

  module _ (i : ℕ) (placed : (h : ℕ) → DependsDirectly block h i → IsSome (spot_at set h)) where
    pub all_placed : (h : ℕ) → Depends block h i → IsSome (spot_at set h)
    all_placed h dep = (let c = chain_over block h i dep.0 dep.1 in by_chain c.0 c.1)
      where
        by_chain : (sum : ℤ) → Chain block h i sum → IsSome (spot_at set h)
        by_chain _ (single _ cycles d) = placed h (cycles, d)
        by_chain _ (longer m _ sum cycles c d) = chain_placed h m sum c (placed m (cycles, d))

    -- what keeps the latencies of direct dependences keeps all bounds
    pub after_all : (cycle : ℕ) → IsAfterDirect block set i cycle → IsAfter block set i cycle
    after_all cycle after h bound s w at = (let c = chain_over block h i bound w in by_chain c.0 c.1 c.2)
      where
        by_chain : (sum : ℤ) → Chain block h i sum → bound ≤ℤ sum → (pos s.cycle +ℤ bound) ≤ℤ pos cycle
        by_chain _ (single _ cycles d) low =
            let kept : (pos s.cycle +ℤ cycles) ≤ℤ pos cycle = after h cycles s d at in
            omega (arith, ints, low, kept)
        by_chain _ (longer m _ sum cycles c d) low =
            let u = value_of_some (spot_at set m) (placed m (cycles, d)) in
            let first : (pos s.cycle +ℤ sum) ≤ℤ pos u.0.cycle = chain_kept h m sum c s u.0 at u.1 in
            let second : (pos u.0.cycle +ℤ cycles) ≤ℤ pos cycle = after m cycles u.0 d u.1 in
            omega (arith, ints, low, first, second)

    pub early_is : (cycle : ℕ) → IsDirectEarly block set i cycle → IsEarly block set i cycle
    early_is cycle early = record {
      after = after_all cycle early.after;
      least = λ other after. early.least other
          (λ h cycles s d at. after h cycles s (bounds_direct block h i cycles d) at);
    }

    pub is_early : (cycle : ℕ) → IsEarly block set i cycle → IsDirectEarly block set i cycle
    is_early cycle early = record {
      after = λ h cycles s d at. early.after h cycles s (bounds_direct block h i cycles d) at;
      least = λ other after. early.least other (after_all other after);
    }

  -- ---- ready numbers

  pub ready_directly : (i : ℕ) → IsReady block set i → (h : ℕ) → DependsDirectly block h i → IsSome (spot_at set h)
  ready_directly i ready h w = ready.founded h (depends_direct block h i w)

  pub ready_early : (i cycle : ℕ) → IsReady block set i → IsDirectEarly block set i cycle → IsEarly block set i cycle
  ready_early i cycle ready early = early_is i (ready_directly i ready) cycle early

pub direct_ones_tell_early : (block : List Insn) (set : Spots) → DirectOnesTellEarly block set
direct_ones_tell_early block set i cycle lawful ready =
    let placed = ready_directly block set lawful i ready in
    (early_is block set lawful i placed cycle, is_early block set lawful i placed cycle)
