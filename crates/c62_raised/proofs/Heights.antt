-- Raised heights, from the last number up.
use Rattle.std.proofs.Common.{arith, ◌≡◌, ℕ, zero, suc, ◌+◌, ◌-◌, ◌*◌, ◌<◌, ◌≤◌, List, length, Option, Some, None, sym}
use Rattle.std.proofs.Common.{ap, ◌∙◌, subst, inl, inr}
use Rattle.std.specs.Prelude.{ℤ, pos, negsuc, ◌≤ℤ◌, slice_index, slice_set, replicate}
use Rattle.std.specs.Int.{div_ceil}
use Rattle.std.proofs.lemmas.Int.{ints}
use Rattle.std.proofs.lemmas.Bool.{cases_eq, cases_lt}
use Rattle.std.proofs.lemmas.Option.{same_Some, none-some}
use Rattle.std.proofs.lemmas.List.{get_or-set_same, get_or-set_other, get_or-replicate, get_or_past, length-replicate}
use Rattle.c62_insn.specs.declared.insn.Insn.{Insn}
use Rattle.c62_depend.specs.Height.{raised, delay_at}
use Rattle.c62_sheet.specs.Counts.{HasCount}
use Rattle.c62_bound.proofs.Needs.{few_rounds}
use Rattle.c62_raised.specs.declared.room.Room.{Room}
use Rattle.c62_raised.specs.declared.crowd.Crowd.{Crowd as CrowdOf}
use Rattle.c62_raised.specs.Room.{width_of}
use Rattle.c62_raised.specs.Chain.{AreLongest}
use Rattle.c62_raised.specs.Crowd.{IsInCrowd, IsCrowdOf}
use Rattle.c62_raised.specs.Raised.{IsReached, IsRaised, IsRaisedAt, AreRaised}
use Rattle.c62_raised.specs.Steps.{IsSmall, AreLow}
use Rattle.c62_raised.proofs.Chains.{chain_after, chain_of, one_longest}
use Rattle.c62_raised.proofs.Bound.{some_width_of}
use Rattle.c62_raised.proofs.Crowds.{count_same, is_some, the_one}
use Rattle.c62_read.specs.declared.limits.TheConstants.{MOST_INSTRUCTIONS}

-- what comes behind by the one comes behind by the other, with the same height
abbrev pub AreAlike : (ℕ → ℕ) → (ℕ → Option ℤ) → (ℕ → ℕ) → (ℕ → Option ℤ) → Type 0
AreAlike old from new to = (j : ℕ) (before : ℤ) → from j ≡ Some before → (to j ≡ Some before) × (old j ≡ new j)

in_same : (block : List Insn) (old new : ℕ → ℕ) (from to : ℕ → Option ℤ) (room : Room) (tail j : ℕ)
    → AreAlike old from new to
    → IsInCrowd block old from room tail j → IsInCrowd block new to room tail j
in_same block old new from to room tail j alike is =
    let before = the_one (from j) is.behind in
    let w = alike j before.0 before.1 in
    record {
      waits = is.waits;
      behind = is_some (to j) before.0 w.0;
      tall =
          (let tall = is.tall in omega (arith, tall, w.1));
    }

crowd_same : (block : List Insn) (old new : ℕ → ℕ) (from to : ℕ → Option ℤ) (room : Room) (last : ℕ) (crowd : CrowdOf)
    → AreAlike old from new to
    → AreAlike new to old from → IsCrowdOf block old from room last crowd → IsCrowdOf block new to room last crowd
crowd_same block old new from to room last crowd alike back w =
    let first = w.first in
    let before = the_one (from last) w.last_in.behind in
    record {
      is_room = w.is_room;
      is_tail = w.is_tail ∙ (alike last before.0 before.1).1;
      within = w.within;
      last_in = in_same block old new from to room crowd.tail last alike w.last_in;
      counted = count_same (IsInCrowd block old from room crowd.tail) (IsInCrowd block new to room crowd.tail)
          (length block) crowd.count
          (λ j low is. in_same block old new from to room crowd.tail j alike is)
          (λ j low is. in_same block new old to from room crowd.tail j back is) w.counted;
      least = λ j cycles low is told. w.least j cycles low (in_same block new old to from room crowd.tail j back is)
          (back j cycles told).0;
      first = (
        first.0,
        first.1,
        in_same block old new from to room crowd.tail first.0 alike first.2,
        (alike first.0 crowd.lead first.3).0,
      );
    }

reached_same : (block : List Insn) (old new : ℕ → ℕ) (from to : ℕ → Option ℤ) (delay cycles : ℕ)
    → AreAlike old from new to → AreAlike new to old from
    → IsReached block old from delay cycles → IsReached block new to delay cycles
reached_same block old new from to delay cycles alike back reached = elim reached [
  | inl e ↦ inl e
  | inr w ↦ elim w [
    | inl one ↦
        (let there = alike one.0 one.1 one.2 in
        inr (inl (one.0, one.1, there.0, one.3 ∙ ap (raised one.1) there.1)))
    | inr many ↦ inr (inr
        (many.0, many.1, many.2, crowd_same block old new from to many.0 many.1 many.2 alike back many.3, many.4))
  ]
]

pub raised_same : (block : List Insn) (old new : ℕ → ℕ) (from to : ℕ → Option ℤ) (delay cycles : ℕ)
    → AreAlike old from new to
    → AreAlike new to old from
    → IsRaised block old from delay cycles → IsRaised block new to delay cycles
raised_same block old new from to delay cycles alike back is = record {
  own = is.own;
  ones = λ j before e. (
      let there = back j before e in
      let low = is.ones j before there.0 in
      let same : raised before (new j) ≡ raised before (old j) = ap (raised before) there.1 in
      omega (arith, low, same));
  crowds = λ room last crowd w. is.crowds room last crowd
      (crowd_same block new old to from room last crowd back alike w);
  attained = reached_same block old new from to delay cycles alike back is.attained;
}

-- ---- one is one

reached_below : (block : List Insn) (height : ℕ → ℕ) (lead : ℕ → Option ℤ) (delay a b : ℕ)
    → IsReached block height lead delay a
    → IsRaised block height lead delay b → a ≤ b
reached_below block height lead delay a b reached is = elim reached [
  | inl e ↦ (let own = is.own in omega (arith, own, e))
  | inr w ↦ elim w [
    | inl one ↦ (let low = is.ones one.0 one.1 one.2 in omega (arith, low, one.3))
    | inr many ↦ (let low = is.crowds many.0 many.1 many.2 many.3 in omega (arith, low, many.4))
  ]
]

pub one_raised : (block : List Insn) (height : ℕ → ℕ) (lead : ℕ → Option ℤ) (delay a b : ℕ)
    → IsRaised block height lead delay a
    → IsRaised block height lead delay b → a ≡ b
one_raised block height lead delay a b p q =
    let up = reached_below block height lead delay a b p.attained q in
    let down = reached_below block height lead delay b a q.attained p in
    omega (arith, up, down)

-- ---- low

count_few : (Is : ℕ → Type 0) (n count : ℕ) → HasCount Is n count → count ≤ n
count_few Is zero count has = omega (arith, has)
count_few Is (suc n) count has = elim has [
  | inl w ↦ (let rest = count_few Is n w.1.0 w.1.2 in let one = w.1.1 in omega (arith, rest, one))
  | inr w ↦ (let rest = count_few Is n count w.1 in omega (arith, rest))
]

grows : (by count : ℕ) → 0 < by → count ≤ by * count
grows zero count some = absurd (omega (arith, some))
grows (suc by) count some = omega arith

raised_few : (lead : ℤ) (h most : ℕ) → lead ≤ℤ pos most → raised lead h ≤ most + h
raised_few (pos l) h most low = omega (arith, ints, low)
raised_few (negsuc l) h most low = omega (arith, ints, low)

small_most : (o : Option ℤ) (cycles : ℤ) → IsSmall o → o ≡ Some cycles → cycles ≤ℤ pos 1280
small_most None cycles small e = absurd (none-some cycles e)
small_most (Some more) cycles small e = subst (λ (z : ℤ). z ≤ℤ pos 1280) (same_Some more cycles e) small.1

pub raised_low : (block : List Insn) (height : ℕ → ℕ) (lead : ℕ → Option ℤ) (delay cycles most : ℕ)
    → length block ≤ MOST_INSTRUCTIONS
    → delay ≤ 255
    → ((j : ℕ) → IsSmall (lead j)) → ((j : ℕ) → height j ≤ most) → IsReached block height lead delay cycles
    → cycles ≤ most + 1536
raised_low block height lead delay cycles most few short small low reached = elim reached [
  | inl e ↦ omega (arith, e, short)
  | inr w ↦ elim w [
    | inl one ↦
        (let up = raised_few one.1 (height one.0) 1280 (small_most (lead one.0) one.1 (small one.0) one.2) in
        omega (arith, up, one.3, low one.0))
    | inr many ↦
        (let crowd : CrowdOf = many.2 in
        let is = many.3 in
        let first = is.first in
        let rounds : ℕ = div_ceil crowd.count (width_of crowd.room) in
        let up = raised_few crowd.lead (rounds - 1 + crowd.tail) 1280
        (small_most (lead first.0) crowd.lead (small first.0) first.3) in
        let count = count_few (IsInCrowd block height lead many.0 crowd.tail) (length block) crowd.count is.counted in
        let fewer = few_rounds crowd.count (width_of crowd.room) crowd.count (some_width_of crowd.room)
        (grows (width_of crowd.room) crowd.count (some_width_of crowd.room)) in
        let tail = is.is_tail in
        let deep = low many.1 in
        omega (arith, up, count, fewer, tail, deep, few, many.4))
  ]
]

-- ---- one more

module _ (block : List Insn) (i : ℕ) (old : List ℕ) (h : ℕ) (inside : i < length old) where
  abbrev After : List ℕ
  After = slice_set old i h

  same_behind : (k : ℕ) (lead : ℕ → Option ℤ) → i ≤ k → AreLongest block k lead
      → AreAlike (slice_index old) lead (slice_index After) lead
  same_behind k lead low longest j before e =
      let after = (chain_after block k j before (chain_of block k j (lead j) before (longest j) e)).0 in
      (e, sym (get_or-set_other old i j h 0 (λ same. omega (arith, same, after, low))))

  same_ahead : (k : ℕ) (lead : ℕ → Option ℤ) → i ≤ k → AreLongest block k lead
      → AreAlike (slice_index After) lead (slice_index old) lead
  same_ahead k lead low longest j before e = let w = same_behind k lead low longest j before e in (e, sym w.1)

  pub one_more_raised : (lead : ℕ → Option ℤ) → AreLongest block i lead
      → IsRaised block (slice_index old) lead (delay_at block i) h
      → ((k : ℕ) → i + 1 ≤ k → k < length block → IsRaisedAt block (slice_index old) k) → (k : ℕ) → i ≤ k
      → k < length block
      → IsRaisedAt block (slice_index After) k
  one_more_raised lead longest is rest k low within = elim (cases_eq k i) [
    | inl e ↦
        subst (IsRaisedAt block (slice_index After)) (sym e) (
          lead,
          longest,
          subst (IsRaised block (slice_index After) lead (delay_at block i)) (sym (get_or-set_same old i h 0 inside))
              (raised_same block (slice_index old) (slice_index After) lead lead (delay_at block i) h
              (same_behind i lead (omega arith) longest)
              (same_ahead i lead (omega arith) longest) is),
        )
    | inr ne ↦
        (let w = rest k (omega (arith, low, ne)) within in (
          w.0,
          w.1,
          subst (IsRaised block (slice_index After) w.0 (delay_at block k)) (sym (get_or-set_other old i k h 0 ne))
              (raised_same block (slice_index old) (slice_index After) w.0 w.0 (delay_at block k) (slice_index old k)
              (same_behind k w.0 low w.1)
              (same_ahead k w.0 low w.1) w.2),
        ))
  ]

  pub one_more_low : (most more : ℕ) → AreLow most old → h ≤ more → most ≤ more → AreLow more After
  one_more_low most more low own up j = elim (cases_eq j i) [
    | inl e ↦ (let same : slice_index After j ≡ h = ap (slice_index After) e
        ∙ get_or-set_same old i h 0 inside in omega (arith, same, own))
    | inr ne ↦ (let same : slice_index After j ≡ slice_index old j = get_or-set_other old i j h 0 ne in
        let below = low j in
        omega (arith, same, below, up))
  ]

-- ---- one list of raised heights

alike_behind : (block : List Insn) (a b : ℕ → ℕ) (i : ℕ) (from to : ℕ → Option ℤ)
    → ((j : ℕ) → i < j → j < length block → a j ≡ b j)
    → AreLongest block i from
    → AreLongest block i to → AreAlike a from b to
alike_behind block a b i from to same longest other j before e =
    let after = chain_after block i j before (chain_of block i j (from j) before (longest j) e) in
    (sym (one_longest block i j (from j) (to j) (longest j) (other j)) ∙ e, same j after.0 after.1)

one_by : (block : List Insn) (a b : ℕ → ℕ) (i : ℕ) → ((j : ℕ) → i < j → j < length block → a j ≡ b j)
    → IsRaisedAt block a i
    → IsRaisedAt block b i → a i ≡ b i
one_by block a b i same v w =
    one_raised block b w.0 (delay_at block i) (a i) (b i)
    (raised_same block a b v.0 w.0 (delay_at block i) (a i) (alike_behind block a b i v.0 w.0 same v.1 w.1)
    (alike_behind block b a i w.0 v.0 (λ j low within. sym (same j low within)) w.1 v.1) v.2) w.2

pub one_height : (block : List Insn) (a b : ℕ → ℕ) → AreRaised block a → AreRaised block b → (steps i : ℕ)
    → i < length block
    → length block ≤ i + steps
    → a i ≡ b i
one_height block a b p q zero i within few = absurd (omega (arith, within, few))
one_height block a b p q (suc steps) i within few =
    one_by block a b i (λ j after inside. one_height block a b p q steps j inside (omega (arith, after, few)))
    (p i within) (q i within)

-- ---- none

pub no_height : (n j : ℕ) → slice_index (replicate n 0) j ≡ 0
no_height n j = elim (cases_lt j n) [
  | inl low ↦ get_or-replicate n j 0 0 low
  | inr high ↦ get_or_past (replicate n 0) j 0 (omega (arith, high, length-replicate {A = ℕ} n 0))
]
