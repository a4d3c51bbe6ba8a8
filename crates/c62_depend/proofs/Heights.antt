-- Heights are what the rule says: the greatest of the delay and of each latency plus the height behind it.
use Rattle.c62_depend.proofs.Common.{◌≡◌, ℕ, zero, suc, ◌+◌, ◌-◌, ◌*◌, ◌<◌, ◌≤◌, max, set, ℤ, pos, ◌≤ℤ◌, List, [], ◌∷◌}
use Rattle.c62_depend.proofs.Common.{◌++◌, length, map, Option}
use Rattle.c62_depend.proofs.Common.{Some, None, refl, sym, ◌∙◌, arith, inl, inr, All, slice_get, slice_index, flat_map}
use Rattle.c62_depend.proofs.Common.{range_with_len, ints}
use Rattle.c62_depend.proofs.Common.{cases_eq, get_or-set_other, get_or-set_at, fill_by_all, All-nil, All-cons}
use Rattle.c62_depend.proofs.Common.{All-append, All-head, All-tail}
use Rattle.c62_depend.proofs.Common.{All-weaker, Insn, Link, latency, linked, followers, raised, raised_by, delay_in}
use Rattle.c62_depend.proofs.Common.{delay_at, longest, path_within}
use Rattle.c62_depend.proofs.Common.{height, AreHeightsFrom, as_bound}
use Rattle.std.proofs.Math.ListN.{length-set}
use Rattle.c62_read.specs.declared.limits.TheConstants.{MOST_INSTRUCTIONS}
use Rattle.c62_depend.specs.declared.limits.TheConstants.{ISSUE_CYCLES}
use Rattle.c62_depend.proofs.Ranges.{pieces_more}
use Rattle.c62_depend.proofs.Latencies.{latency_small_at, delay_of-small}

-- ---- the lists of dependences

pub linked-all : (P : Link → Type 0) (number : ℕ) (o : Option ℤ)
    → ((l : ℤ) → o ≡ Some l → P (record { number = number; latency = l }))
    → All P (linked number o)
linked-all P number None each = All-nil P
linked-all P number (Some l) each = All-cons P (record { number = number; latency = l }) [] (each l refl) (All-nil P)

pub pieces-all : {A : Type 0} (P : A → Type 0) (f : ℕ → List A) (a n : ℕ) → ((j : ℕ) → a ≤ j → j < a + n → All P (f j))
    → All P (flat_map f (range_with_len a n))
pieces-all P f a zero each = All-nil P
pieces-all P f a (suc n) each =
    All-append P (f a) (flat_map f (range_with_len (a + 1) n)) (each a (omega arith) (omega arith))
    (pieces-all P f (a + 1) n (λ j low high. each j (omega arith) (omega arith)))

-- what holds of a dependence in the list of those that depend on i
pub record IsFollower (block : List Insn) (i : ℕ) (link : Link) : Type 0 where
  pub after : i < link.number
  pub within : link.number < length block
  pub is : latency block i link.number ≡ Some link.latency

pub followers-are : (block : List Insn) (i : ℕ) → All (IsFollower block i) (followers block i)
unfolding followers
followers-are block i =
    pieces-all (IsFollower block i) (λ j. linked j (latency block i j)) (i + 1) (length block - (i + 1))
    (λ j low high. linked-all (IsFollower block i) j (latency block i j)
    (λ l e. record { after = omega arith; within = omega arith; is = e }))

-- ---- the greatest over a list

pub longest_same : (f g : ℕ → ℕ) (least : ℕ) (links : List Link) → All (λ link. f link.number ≡ g link.number) links
    → longest f least links ≡ longest g least links
longest_same f g least [] same = refl
longest_same f g least (link ∷ links) same =
    let here = All-head (λ link. f link.number ≡ g link.number) link links same in
    rw here
    (longest_same f g (max least (raised link.latency (g link.number))) links
    (All-tail (λ link. f link.number ≡ g link.number) link links same))

pub longest_below : (f : ℕ → ℕ) (least most : ℕ) (links : List Link) → least ≤ most
    → All (λ link. raised link.latency (f link.number) ≤ most) links
    → longest f least links ≤ most
longest_below f least most [] low each = low
longest_below f least most (link ∷ links) low each =
    let first = All-head (λ link. raised link.latency (f link.number) ≤ most) link links each in
    longest_below f (max least (raised link.latency (f link.number))) most links (omega (arith, first))
    (All-tail (λ link. raised link.latency (f link.number) ≤ most) link links each)

raised-small : (l : ℤ) (h : ℕ) → l ≤ℤ pos 5 → raised l h ≤ h + 5
raised-small l h small = grind (arith, ints)

delay_in-small : (o : Option Insn) → delay_in o ≤ 5
delay_in-small o = grind (arith, delay_of-small)

-- ---- heights

enough : (block : List Insn) (s t i : ℕ) → i < length block → length block ≤ i + s → length block ≤ i + t
    → path_within block s i ≡ path_within block t i
enough block zero t i within some more = absurd (omega arith)
enough block (suc s) zero i within some more = absurd (omega arith)
enough block (suc s) (suc t) i within some more =
    longest_same (path_within block s) (path_within block t) (delay_at block i) (followers block i)
    (All-weaker (IsFollower block i) (λ link. path_within block s link.number ≡ path_within block t link.number)
    (λ link follows. let after : i < link.number = follows.after in enough block s t link.number follows.within
    (omega arith) (omega arith))
    (followers block i) (followers-are block i))

-- the rule of heights
pub height-step : (block : List Insn) (i : ℕ) → i < length block
    → height block i ≡ longest (height block) (delay_at block i) (followers block i)
unfolding height
height-step block i within = enough block (length block) (suc (length block)) i within (omega arith) (omega arith)

one_more : (block : List Insn) (f : ℕ → ℕ) (i : ℕ) (link : Link) → IsFollower block i link
    → f link.number ≤ 5 * (length block - link.number)
    → raised link.latency (f link.number) ≤ 5 * (length block - i)
one_more block f i link follows behind =
    let small : link.latency ≤ℤ pos 5 = (latency_small_at block i link.number (Some link.latency) (sym follows.is)).1 in
    omega (arith, raised-small link.latency (f link.number) small, follows.after, follows.within)

within-more : (block : List Insn) (s i : ℕ) → i < length block → path_within block s i ≤ 5 * (length block - i)
within-more block zero i within = omega arith
within-more block (suc s) i within =
    longest_below (path_within block s) (delay_at block i) (5 * (length block - i)) (followers block i)
    (let delay : delay_at block i ≤ 5 = delay_in-small (slice_get block i) in omega arith)
    (All-weaker (IsFollower block i)
    (λ link. raised link.latency (path_within block s link.number) ≤ 5 * (length block - i))
    (λ link follows. one_more block (path_within block s) i link follows
    (within-more block s link.number follows.within))
    (followers block i) (followers-are block i))

-- a height is at most five cycles for each instruction from this one on
pub height-small : (block : List Insn) (i : ℕ) → i < length block → height block i ≤ 5 * (length block - i)
unfolding height
height-small block i within = within-more block (length block) i within

-- ---- the heights found from the last number up

-- a height behind i is small
pub low_behind : (block : List Insn) (i j : ℕ) (heights : List ℕ) → AreHeightsFrom block (i + 1) heights
    → length block ≤ MOST_INSTRUCTIONS → i < j
    → j < length block → slice_index heights j ≤ ISSUE_CYCLES
low_behind block i j heights from few after within =
    omega (arith, height-small block j within, from.are j (omega arith) within)

-- one number further up
pub height_more : (block : List Insn) (i h : ℕ) (heights : List ℕ) → AreHeightsFrom block (i + 1) heights
    → i < length block
    → h ≡ height block i → AreHeightsFrom block i (set heights i h)
height_more block i h heights from within found = record {
  long = length-set heights i h ∙ from.long;
  are = λ k low high. elim (cases_eq k i) [
    | inl same ↦ rw (get_or-set_at heights i k h 0 same (omega (arith, from.long)), same) found
    | inr other ↦ rw (get_or-set_other heights i k h 0 other) (from.are k (omega arith) high)
  ];
}

pub heights_all : (block : List Insn) (n : ℕ) (heights : List ℕ) → AreHeightsFrom block 0 heights → length block ≡ n
    → heights ≡ map (height block) (range_with_len 0 n)
heights_all block n heights from long =
    fill_by_all (height block) heights n 0 (from.long ∙ long) (λ k inside. from.are k (omega arith) (omega arith))
