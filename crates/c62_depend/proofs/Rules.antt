-- The lists of dependences and the heights are what their rules say.
use Rattle.c62_depend.proofs.Common.{◌≡◌, ℕ, zero, suc, ◌+◌, ◌-◌, ◌<◌, ◌≤◌, max, ℤ, pos, ◌+ℤ◌, ◌≤ℤ◌, List, [], ◌∷◌}
use Rattle.c62_depend.proofs.Common.{◌++◌, length, map, Option, Some}
use Rattle.c62_depend.proofs.Common.{None, refl, sym, subst, arith, inl, inr, ◌⊎◌, All, Contains, flat_map}
use Rattle.c62_depend.proofs.Common.{range_with_len, ints, cases_lt, All-nil}
use Rattle.c62_depend.proofs.Common.{All-cons, All-contains, Contains-append_left, Contains-append_right, Insn, Link}
use Rattle.c62_depend.proofs.Common.{latency, linked}
use Rattle.c62_depend.proofs.Common.{followers, raised, delay_at, longest, height, IsHeight, ◌∙◌}
use Rattle.std.specs.List.Sorted.{IsStrictlyIncreasing}
use Rattle.c62_depend.specs.Laws.{AreLinks}
use Rattle.c62_depend.proofs.Heights.{IsFollower, followers-are, height-step, linked-all, pieces-all}
use Rattle.c62_depend.proofs.Plans.{short_is}

-- ---- the lists of dependences

pub first_in : {A : Type 0} (x : A) (xs : List A) → Contains (x ∷ xs) x
first_in x xs = (0, omega arith, refl)

later_in : {A : Type 0} (y x : A) (xs : List A) → Contains xs x → Contains (y ∷ xs) x
later_in y x xs w = (suc w.0, (let low : w.0 < length xs = w.1 in omega arith), w.2)

-- a piece is part of the whole
piece_in : {A : Type 0} (f : ℕ → List A) (a n j : ℕ) (x : A) → a ≤ j → j < a + n → Contains (f j) x
    → Contains (flat_map f (range_with_len a n)) x
piece_in f a zero j x low high is = absurd (omega arith)
piece_in {A} f a (suc n) j x low high is = elim (cases_lt a j) [
  | inl after ↦ Contains-append_right (f a) (flat_map f (range_with_len (a + 1) n)) x
      (piece_in f (a + 1) n j x (omega arith) (omega arith) is)
  | inr first ↦
      let same : a ≡ j = omega arith in
      Contains-append_left (f a) (flat_map f (range_with_len (a + 1) n)) x (rw same is)
]

link_in : (number : ℕ) (o : Option ℤ) (l : ℤ) → o ≡ Some l
    → Contains (linked number o) (record { number = number; latency = l })
link_in number o l e = rw e (first_in (record { number = number; latency = l }) [])

-- the numbers rise, from this one on
Rises : ℕ → List Link → Type 0
Rises low [] = Unit {0}
Rises low (link ∷ links) = (low ≤ link.number) × Rises (link.number + 1) links

rises_lower : (low least : ℕ) (links : List Link) → least ≤ low → Rises low links → Rises least links
unfolding Rises
rises_lower low least [] h r = tt
rises_lower low least (link ∷ links) h r = ((let above : low ≤ link.number = r.0 in omega arith), r.1)

pieces_rise : (o : ℕ → Option ℤ) (a n : ℕ) → Rises a (flat_map (λ j. linked j (o j)) (range_with_len a n))
unfolding Rises
pieces_rise o a zero = tt
pieces_rise o a (suc n) = one_more (o a) (flat_map (λ j. linked j (o j)) (range_with_len (a + 1) n))
    (pieces_rise o (a + 1) n)
  where
    one_more : (p : Option ℤ) (links : List Link) → Rises (a + 1) links → Rises a (linked a p ++ links)
    one_more None links r = rises_lower (a + 1) a links (omega arith) r
    one_more (Some l) links r = (omega arith, r)

increasing_from : (low : ℕ) (links : List Link) → Rises low links
    → IsStrictlyIncreasing (map (λ link. link.number) links)
unfolding Rises
increasing_from low [] r k within = absurd (omega arith)
increasing_from low (x ∷ []) r k within = absurd (omega arith)
increasing_from low (x ∷ y ∷ links) r zero within = (let above : x.number + 1 ≤ y.number = r.1.0 in omega arith)
increasing_from low (x ∷ y ∷ links) r (suc k) within =
    let next : suc k + 1 ≡ suc (k + 1) = omega arith in
    rw next (increasing_from (x.number + 1) (y ∷ links) r.1 k (omega arith))

-- a dependence that these latencies tell
abbrev pub Tells : (ℕ → Option ℤ) → Link → Type 0
Tells o link = o link.number ≡ Some link.latency

-- all dependences with the numbers of a range
pub pieces_are : (o : ℕ → Option ℤ) (a n : ℕ) → ((k : ℕ) (l : ℤ) → o k ≡ Some l → (a ≤ k) × (k < a + n))
    → AreLinks (Tells o) (flat_map (λ k. linked k (o k)) (range_with_len a n))
pieces_are o a n within = record {
  all = pieces-all (Tells o) (λ k. linked k (o k)) a n (λ k low high. linked-all (Tells o) k (o k) (λ l e. e));
  each = λ link e.
      let inside = within link.number link.latency e in
      piece_in (λ k. linked k (o k)) a n link.number link inside.0 inside.1
      (link_in link.number (o link.number) link.latency e);
  rising = increasing_from a (flat_map (λ k. linked k (o k)) (range_with_len a n)) (pieces_rise o a n);
}

pub followers_are : (block : List Insn) (i : ℕ)
    → AreLinks (λ link. latency block i link.number ≡ Some link.latency) (followers block i)
unfolding followers
followers_are block i = pieces_are (latency block i) (i + 1) (length block - (i + 1))
    (λ j l e. let short = short_is block i j l e in
    (omega (arith, short.before), omega (arith, short.before, short.within)))

-- ---- heights

pub longest-least : (f : ℕ → ℕ) (least : ℕ) (links : List Link) → least ≤ longest f least links
longest-least f least [] = omega arith
longest-least f least (link ∷ links) = grind
    (arith, longest-least f (max least (raised link.latency (f link.number))) links)

pub longest-each : (f : ℕ → ℕ) (least : ℕ) (links : List Link)
    → All (λ link. raised link.latency (f link.number) ≤ longest f least links) links
longest-each f least [] = All-nil (λ (link : Link). raised link.latency (f link.number) ≤ longest f least [])
longest-each f least (link ∷ links) =
    All-cons (λ (one : Link). raised one.latency (f one.number) ≤ longest f least (link ∷ links)) link links
    (grind (arith, longest-least f (max least (raised link.latency (f link.number))) links))
    (longest-each f (max least (raised link.latency (f link.number))) links)

abbrev pub Reaches : (ℕ → ℕ) → ℕ → ℕ → List Link → Type 0
Reaches f least most links = (most ≡ least)
    ⊎ ((link : Link) × Contains links link × (most ≡ raised link.latency (f link.number)))

pub longest-reached : (f : ℕ → ℕ) (least : ℕ) (links : List Link) → Reaches f least (longest f least links) links
longest-reached f least [] = inl refl
longest-reached f least (link ∷ links) =
    let r = raised link.latency (f link.number) in
    elim (longest-reached f (max least r) links) [
      | inl e ↦ elim (cases_lt least r) [
        | inl above ↦ (let same : max least r ≡ r = omega arith in inr (link, first_in link links, e ∙ same))
        | inr below ↦ (let same : max least r ≡ least = omega arith in inl (e ∙ same))
      ]
      | inr w ↦ inr (w.0, later_in link w.0 links w.1, w.2)
    ]

raised-above : (l : ℤ) (h : ℕ) → (l +ℤ pos h) ≤ℤ pos (raised l h)
raised-above l h = grind (arith, ints)

-- what is reached is the sum, where it isn't below 0
pub raised-exact : (l : ℤ) (h most : ℕ) → most ≡ raised l h → (most ≡ 0) ⊎ (l +ℤ pos h ≡ pos most)
raised-exact l h most e = grind (arith, ints)

pub height_is : (block : List Insn) (i : ℕ) → i < length block → IsHeight block i (height block i)
height_is block i within = subst (IsHeight block i) (sym (height-step block i within)) (record {
  delay = longest-least (height block) (delay_at block i) (followers block i);
  above = λ j cycles e.
      let is_in = (followers_are block i).each (record { number = j; latency = cycles }) e in
      let below : raised cycles (height block j) ≤ longest (height block) (delay_at block i) (followers block i) =
      All-contains (λ (link : Link). raised link.latency (height block link.number) ≤ longest (height block)
      (delay_at block i) (followers block i))
      (followers block i) (record { number = j; latency = cycles })
      (longest-each (height block) (delay_at block i) (followers block i)) is_in in
      omega (arith, ints, below, raised-above cycles (height block j));
  attained =
      reached (longest (height block) (delay_at block i) (followers block i))
      (longest-least (height block) (delay_at block i) (followers block i))
      (longest-reached (height block) (delay_at block i) (followers block i));
})
  where
    reached : (most : ℕ) → delay_at block i ≤ most → Reaches (height block) (delay_at block i) most (followers block i)
        → (most ≡ delay_at block i)
        ⊎ ((j : ℕ) × (cycles : ℤ) × (latency block i j ≡ Some cycles)
        × (cycles +ℤ pos (height block j) ≡ pos most))
    reached most low (inl e) = inl e
    reached most low (inr w) =
        let is = All-contains (IsFollower block i) (followers block i) w.0 (followers-are block i) w.1 in
        elim (raised-exact w.0.latency (height block w.0.number) most w.2) [
          | inl none ↦ (let same : most ≡ delay_at block i = omega arith in inl same)
          | inr sum ↦ inr (w.0.number, w.0.latency, is.is, sum)
        ]
