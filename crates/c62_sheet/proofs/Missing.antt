-- Counts of missing numbers, and how they change along the dependences.
use Rattle.c62_sheet.proofs.Common.{pos, [], arith, ◌≡◌, ℕ, zero, suc, ◌+◌, ◌<◌, ◌≤◌, Bool, true, List, ◌∷◌, length}
use Rattle.c62_sheet.proofs.Common.{Option, Some, None}
use Rattle.c62_sheet.proofs.Common.{refl, sym, ap, ◌∙◌, inl, inr, ◌⊎◌, length-set}
use Rattle.c62_sheet.proofs.Common.{Contains, count_by}
use Rattle.c62_sheet.proofs.Common.{IsSome, slice_index, cases_lt, nat_tests, get_or_past}
use Rattle.c62_sheet.proofs.Common.{Insn}
use Rattle.c62_sheet.proofs.Common.{Link, short_is, Spot, Spots, spot_at, placed, withdrawn, IsAt, LacksSome, IsReady}
use Rattle.c62_sheet.proofs.Common.{IsLawful, lacking}
use Rattle.c62_sheet.proofs.Common.{times, direct_latency, direct_latency_is, direct_needs_are, needs_pieces}
use Rattle.c62_sheet.proofs.Common.{followers_pieces, DependsDirectly, IsDirect}
use Rattle.c62_sheet.proofs.Common.{direct_needs, direct_followers, common_steps, cases_Bool, cond, ℤ, leb}
use Rattle.c62_sheet.proofs.Common.{ltb, ◌==◌, ◌&&◌, eqb, eqb-true}
use Rattle.c62_sheet.proofs.Common.{eq-eqb, sum_by-cons, sum_by-append, get_or-le-sum_by}
use Rattle.c62_sheet.proofs.Common.{count_by-le-length, linked, All-contains}
use Rattle.c62_sheet.proofs.Common.{is_missing, IsIndex, AreLower, AreHigher}
use Rattle.std.specs.List.{flat_map, range_with_len}
use Rattle.c62_sheet.specs.Laws.{DirectOnesTellReady}
use Rattle.c62_sheet.proofs.Founding.{depends_direct, all_placed}
use Rattle.c62_sheet.proofs.Optional.{value_of_some, is_none-is, none_not_some}
use Rattle.c62_sheet.proofs.Sets.{any_spot, spot_at-placed_same, spot_at-placed_other, spot_at-withdrawn_same}
use Rattle.c62_sheet.proofs.Sets.{placed-withdrawn}
use Rattle.c62_read.specs.declared.limits.TheConstants.{MOST_INSTRUCTIONS}

-- a dependence, where one is asked for that is not used
abbrev pub any_link : Link
any_link = record { number = 0; latency = pos 0 }

-- ---- how often a number stands among dependences

-- one where there is a latency, none else
abbrev pub share : Option ℤ → ℕ
share None = 0
share (Some latency) = 1

pieces : (ℕ → Option ℤ) → ℕ → ℕ → List Link
pieces o a n = flat_map (λ h. linked h (o h)) (range_with_len a n)

times-linked : (h j : ℕ) (o : Option ℤ) → times j (linked h o) ≡ cond (h == j) (share o) 0
times-linked h j None = grind (arith, nat_tests)
times-linked h j (Some l) = grind (arith, nat_tests, sum_by-cons)

times-pieces : (o : ℕ → Option ℤ) (j a n : ℕ) → times j (pieces o a n) ≡ cond (leb a j && ltb j (a + n)) (share (o j)) 0
unfolding pieces
times-pieces o j a zero = grind (arith, nat_tests)
times-pieces o j a (suc n) =
    grind (arith, nat_tests, sum_by-append, times-linked a j (o a), times-pieces o j (a + 1) n)

-- a direct dependence goes only to a later number of the block
share-none : (block : List Insn) (i j : ℕ) (o : Option ℤ) → direct_latency block i j ≡ o → (j ≤ i) ⊎ (length block ≤ j)
    → share o ≡ 0
share-none block i j None e out = refl
share-none block i j (Some l) e out = grind (arith, short_is block i j l (direct_latency_is block i j l e).is)

times-below : (o : ℕ → Option ℤ) (j n : ℕ) → (n ≤ j → share (o j) ≡ 0) → times j (pieces o 0 n) ≡ share (o j)
times-below o j n none = grind (arith, nat_tests, times-pieces o j 0 n, none)

pub times-needs : (block : List Insn) (i j : ℕ) → times i (direct_needs block j) ≡ share (direct_latency block i j)
unfolding pieces
times-needs block i j =
    ap (times i) (needs_pieces block j)
    ∙ times-below (λ h. direct_latency block h j) i j
    (λ out. share-none block i j (direct_latency block i j) refl (inl out))

pub times-followers : (block : List Insn) (i j : ℕ)
    → times j (direct_followers block i) ≡ share (direct_latency block i j)
unfolding pieces
times-followers block i j =
    ap (times j) (followers_pieces block i)
    ∙ times-below (direct_latency block i) j (length block)
    (λ out. share-none block i j (direct_latency block i j) refl (inr out))

pub times-past : (block : List Insn) (i j : ℕ) → length block ≤ j → times j (direct_followers block i) ≡ 0
times-past block i j past = times-followers block i j ∙ share-none block i j (direct_latency block i j) refl (inr past)

-- ---- the counts

count_missing : (set : Spots) (i : ℕ) (s : Spot) (links : List Link) → i < length set → spot_at set i ≡ None
    → count_by (is_missing (placed set i s)) links + times i links ≡ count_by (is_missing set) links
count_missing set i s [] lt free = refl
count_missing set i s (link ∷ links) lt free =
    grind (
      arith,
      nat_tests,
      common_steps,
      count_missing set i s links lt free,
      spot_at-placed_same set i s,
      spot_at-placed_other set i link.number s,
    )

pub lacking-placed : (block : List Insn) (set : Spots) (i j : ℕ) (s : Spot) → i < length set → spot_at set i ≡ None
    → lacking block (placed set i s) j + times j (direct_followers block i) ≡ lacking block set j
lacking-placed block set i j s lt free =
    omega (
      arith,
      count_missing set i s (direct_needs block j) lt free,
      times-needs block i j,
      times-followers block i
          j,
    )

pub lacking-withdrawn : (block : List Insn) (set : Spots) (i j : ℕ) (s : Spot) → i < length set → IsAt set i s
    → lacking block (withdrawn set i) j ≡ lacking block set j + times j (direct_followers block i)
lacking-withdrawn block set i j s lt is =
    let step = lacking-placed block (withdrawn set i) i j s (omega (arith, lt, length-set set i None))
    (spot_at-withdrawn_same set i lt) in
    omega (arith, step, ap (λ (x : Spots). lacking block x j) (placed-withdrawn set i s is))

-- at most one dependence a number
few_links : (o : ℕ → Option ℤ) (a n : ℕ) → length (flat_map (λ j. linked j (o j)) (range_with_len a n)) ≤ n
few_links o a zero = omega arith
few_links o a (suc n) = grind (arith, common_steps, few_links o (a + 1) n)

pub needs-few : (block : List Insn) (j : ℕ) → length (direct_needs block j) ≤ j
needs-few block j = rw (needs_pieces block j) (few_links (λ i. direct_latency block i j) 0 j)

-- while nothing is placed, all are missing
pub count_all : (set : Spots) (links : List Link) → ((k : ℕ) → spot_at set k ≡ None)
    → count_by (is_missing set) links ≡ length links
count_all set [] none = refl
count_all set (link ∷ links) none = grind (arith, common_steps, count_all set links none, none link.number)

-- ---- what a count tells

count_some : {X : Type 0} (p : X → Bool) (xs : List X) → 0 < count_by p xs → (x : X) × Contains xs x × (p x ≡ true)
count_some p [] some = absurd (omega (arith, some))
count_some p (x ∷ xs) some =
    elim (cases_Bool (p x)) [
      | inl is ↦ (x, (0, omega arith, refl), is)
      | inr is_not ↦
          let rest = count_some p xs (grind (arith, common_steps)) in
          (rest.0, (suc rest.1.0, omega (arith, rest.1.1), rest.1.2), rest.2)
    ]

pub founded_directly : (block : List Insn) (set : Spots) (i : ℕ) → lacking block set i ≡ 0 → (h : ℕ)
    → DependsDirectly block h i → IsSome (spot_at set h)
founded_directly block set i none h l =
    let there = (direct_needs_are block i).each (record { number = h; latency = l.0 }) l.1 in
    let few = get_or-le-sum_by (λ y. cond (is_missing set y) 1 0) (direct_needs block i) there.0
    (record { number = h; latency = l.0 }) there.1 in
    grind (arith, nat_tests, few, none, there.2)

pub lacks_from_some : (block : List Insn) (set : Spots) (i : ℕ) → 0 < lacking block set i → LacksSome block set i
lacks_from_some block set i some =
    let w = count_some (is_missing set) (direct_needs block i) some in
    let is = All-contains (λ (x : Link). IsDirect block x.number i x.latency) (direct_needs block i) w.0
    (direct_needs_are block i).all w.1 in
    (w.0.number, depends_direct block w.0.number i (w.0.latency, is), is_none-is (spot_at set w.0.number) w.2)

pub direct_ones_tell_ready : (block : List Insn) (set : Spots) → DirectOnesTellReady block set
direct_ones_tell_ready block set i lawful free = (
  λ none. record { free = free; founded = all_placed block set lawful i (founded_directly block set i none) },
  λ ready. elim (cases_lt 0 (lacking block set i)) [
    | inl some ↦ (let w = lacks_from_some block set i some in absurd
        (none_not_some (spot_at set w.0) w.2 (ready.founded w.0 w.1)))
    | inr le ↦ omega (arith, le)
  ],
)

-- ---- the index

module _ (block : List Insn) (set : Spots) (old : List ℕ) (i : ℕ) (index : IsIndex block set old) where
  pub counted_enough : (j : ℕ) → length set ≡ length block → i < length block → spot_at set i ≡ None
      → times j (direct_followers block i) ≤ slice_index old j
  counted_enough j sized lt free =
      elim (cases_lt j (length block)) [
        | inl within ↦ omega (
          arith,
          index.each j within,
          lacking-placed block set i j any_spot
              (omega (arith, sized, lt)) free,
        )
        | inr past ↦ omega (arith, times-past block i j past)
      ]

  pub counted_room : (j : ℕ) → length block ≤ MOST_INSTRUCTIONS
      → slice_index old j + times j (direct_followers block i) < 65536
  counted_room j few =
      elim (cases_lt j (length block)) [
        | inl within ↦
            let most : lacking block set j ≤ j = omega
            (arith, count_by-le-length (is_missing set) (direct_needs block j), needs-few block j) in
            let one : times j (direct_followers block i) ≤ 1 = grind (arith, times-followers block i j) in
            omega (arith, index.each j within)
        | inr past ↦ omega (arith, times-past block i j past, get_or_past old j 0 (omega (arith, index.sized, past)))
      ]

  pub index-placed : (new : List ℕ) (s : Spot) → length set ≡ length block → i < length block → spot_at set i ≡ None
      → length new ≡ length old
      → AreLower (direct_followers block i) old new → IsIndex block (placed set i s) new
  index-placed new s sized lt free same lowered = record {
    sized = same ∙ index.sized;
    each = λ j within. omega
        (arith, lowered j, index.each j within, lacking-placed block set i j s (omega (arith, sized, lt)) free);
  }

  pub index-withdrawn : (new : List ℕ) → length set ≡ length block → i < length block → IsSome (spot_at set i)
      → length new ≡ length old
      → AreHigher (direct_followers block i) old new → IsIndex block (withdrawn set i) new
  index-withdrawn new sized lt taken same raised = record {
    sized = same ∙ index.sized;
    each = λ j within.
        let s = value_of_some (spot_at set i) taken in
        omega (
          arith,
          raised j,
          index.each j within,
          lacking-withdrawn block set i j s.0 (omega (arith, sized, lt))
              s.1,
        );
  }

-- what a count above 0 tells, and what 0 does
module _ (block : List Insn) (set : Spots) (missing : List ℕ) (i n : ℕ) (index : IsIndex block set missing)
    (lt : i < length block)
    (same : n ≡ i) where
  count_is : slice_index missing n ≡ lacking block set i
  count_is = ap (slice_index missing) same ∙ index.each i lt

  pub lacks_at : 0 < slice_index missing n → LacksSome block set i
  lacks_at some = lacks_from_some block set i (omega (arith, some, count_is))

  pub placed_at : slice_index missing n ≤ 0 → (h : ℕ) → DependsDirectly block h i → IsSome (spot_at set h)
  placed_at low = founded_directly block set i (omega (arith, low, count_is))

  pub lacks_none : IsLawful block set → slice_index missing n ≤ 0 → LacksSome block set i → ⊥
  lacks_none lawful low w = none_not_some (spot_at set w.0) w.2 (all_placed block set lawful i (placed_at low) w.0 w.1)

  -- a number that is not placed is ready exactly where its count is 0
  pub ready_is : IsLawful block set → spot_at set i ≡ None
      → (eqb (slice_index missing n) 0 ≡ true → IsReady block set i)
      × (IsReady block set i → eqb (slice_index missing n) 0 ≡ true)
  ready_is lawful free = (
    λ e. record {
      free = free;
      founded = all_placed block set lawful i (founded_directly block set i (sym count_is
          ∙ eqb-true (slice_index missing n) 0 e));
    },
    λ ready. elim (cases_lt 0 (slice_index missing n)) [
      | inl some ↦ (let w = lacks_at some in absurd (none_not_some (spot_at set w.0) w.2 (ready.founded w.0 w.1)))
      | inr le ↦ eq-eqb (slice_index missing n) 0 (omega (arith, le))
    ],
  )
