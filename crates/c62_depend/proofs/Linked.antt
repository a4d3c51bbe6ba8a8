-- The lists of direct dependences, one instruction more at a time.
use Rattle.c62_depend.proofs.Common.{◌≡◌, ◌≢◌, ℕ, zero, suc, ◌+◌, ◌-◌, ◌<◌, ◌≤◌, Bool, true, false, List, [], ◌∷◌, ◌++◌}
use Rattle.c62_depend.proofs.Common.{Option, Some, None, refl, sym, ap, ◌∙◌, arith, inl, inr, subst}
use Rattle.c62_depend.proofs.Common.{◌&&◌, nat_lt, nat_tests, if◌then◌else◌, get_or, set, length, length-map, map}
use Rattle.c62_depend.proofs.Common.{cases_eq, cases_lt, flat_map, range_with_len, Insn, Link, Uses, insns_in, latency}
use Rattle.c62_depend.proofs.Common.{linked}
use Rattle.c62_depend.proofs.Common.{links_of, AreLists, get_or-set_at, get_or-set_other, fill_by_all, both_ways}
use Rattle.c62_depend.proofs.Common.{and_parts, lt-ltb, ltb-true, ℤ, false_from_ne_true}
use Rattle.std.proofs.lemmas.List.{append-nil, get_or-map, get_or_default}
use Rattle.std.proofs.Math.ListN.{length-set}
use Rattle.smallvec.specs.SmallVec.{SmallVec}
use Rattle.c62_depend.specs.declared.number_set.NumberSet.{NumberSet}
use Rattle.c62_depend.specs.declared.register_users.RegisterUsers.{RegisterUsers}
use Rattle.c62_depend.specs.NumberSet.{number_in, IsLeastFrom}
use Rattle.c62_depend.specs.Open.{IsOpenAt}
use Rattle.c62_depend.specs.Direct.{linked_if, direct_before}
unfoldable use Rattle.c62_depend.specs.Direct.{is_direct, direct_needs, direct_followers}
use Rattle.c62_depend.specs.Walk.{AreAccesses, AreOrders, AreDirect, AreLinkedBefore}
use Rattle.c62_depend.proofs.Common.{delay_in}
use Rattle.std.proofs.lemmas.List.Folds.{list_any_at, list_any_more}
use Rattle.c62_depend.specs.Direct.{land_behind}
use Rattle.c62_depend.proofs.Latencies.{latency_late, many_uses, insn_at}
use Rattle.c62_depend.proofs.Common.{le-ltb, list_any, take, pos, ◌+ℤ◌, delay_at}
use Rattle.std.specs.Prelude.{int_le}
use Rattle.std.proofs.lemmas.List.Elements.{All-get_or}
use Rattle.c62_depend.proofs.BranchRelays.{IsLinkBefore, links_before}
use Rattle.c62_depend.proofs.Lists.{lists_long, list_is}
use Rattle.c62_depend.proofs.Ranges.{pieces_more}

-- how far the walk is
pub record AreWalked (uses : List Uses) (j : ℕ) (known : RegisterUsers) (memory : NumberSet) (sets : List NumberSet)
    (earlier later : List (SmallVec Link)) : Type 0 where
  pub users : IsOpenAt uses j known
  pub accesses : AreAccesses uses j memory
  pub orders : AreOrders uses j sets
  pub needs : AreLists (direct_needs (insns_in uses)) j earlier
  pub followers : AreLinkedBefore uses j later

-- what depends directly on number i, with number j where i lies before a place
abbrev pub linked_to : List Insn → ℕ → ℕ → ℕ → List Link
linked_to block j at i = if nat_lt i at then direct_before block i (suc j) else direct_before block i j

-- number j is linked with those before a place
pub record AreLinkedTo (uses : List Uses) (j at : ℕ) (earlier : List Link) (later : List (SmallVec Link)) : Type 0 where
  pub within : at ≤ j
  pub needs : earlier ≡ flat_map (λ i. linked_if (is_direct (insns_in uses) i j) i (latency (insns_in uses) i j))
      (range_with_len 0 at)
  pub followers : AreLists (linked_to (insns_in uses) j at) (length uses) later

-- numbers more that give nothing
pieces_skip : {A : Type 0} (f : ℕ → List A) (a n m : ℕ) (xs : List A) → n ≤ m
    → ((k : ℕ) → a + n ≤ k → k < a + m → f k ≡ [])
    → xs ≡ flat_map f (range_with_len a n) → xs ≡ flat_map f (range_with_len a m)
pieces_skip f a n zero xs le none are = let same : n ≡ zero = omega arith in subst
    (λ k. xs ≡ flat_map f (range_with_len a k)) same are
pieces_skip {A} f a n (suc m) xs le none are = elim (cases_eq n (suc m)) [
  | inl same ↦ subst (λ k. xs ≡ flat_map f (range_with_len a k)) same are
  | inr other ↦
      let before = pieces_skip f a n m xs (omega arith) (λ k low high. none k low (omega arith)) are in
      let nothing : f (a + m) ≡ [] = none (a + m) (omega arith) (omega arith) in
      pieces_more f a m (suc m) (a + m) xs xs refl (omega arith) before (sym (ap (λ (ys : List A). xs ++ ys) nothing
      ∙ append-nil xs))
]

-- lists that are the same number by number
pub lists_by : (f g : ℕ → List Link) (count : ℕ) (lists : List (SmallVec Link)) → AreLists f count lists
    → ((i : ℕ) → i < count → f i ≡ g i)
    → AreLists g count lists
lists_by f g count lists are same = are ∙ same_map count 0 (λ i low. same i (omega (arith, low)))
  where
    same_map : (n a : ℕ) → ((i : ℕ) → i < a + n → f i ≡ g i) → map f (range_with_len a n) ≡ map g (range_with_len a n)
    same_map zero a each = refl
    same_map (suc n) a each = rw (each a (omega arith), same_map n (a + 1) (λ i low. each i (omega arith))) refl

-- one list is set
pub lists_set : (f g : ℕ → List Link) (count at : ℕ) (lists : List (SmallVec Link)) (list : SmallVec Link)
    → AreLists f count lists → at < count
    → list.items ≡ g at → ((i : ℕ) → i < count → i ≢ at → f i ≡ g i) → AreLists g count (set lists at list)
lists_set f g count at lists list are within is others =
    fill_by_all g (links_of (set lists at list)) count [] long each
  where
    many : length lists ≡ count
    many = lists_long f count lists are

    long : length (links_of (set lists at list)) ≡ count
    long = length-map (set lists at list) (λ (l : SmallVec Link). l.items) ∙ length-set lists at list ∙ many

    each : (k : ℕ) → k < count → get_or (links_of (set lists at list)) k [] ≡ g k
    each k inside =
        get_or-map (λ (l : SmallVec Link). l.items) (set lists at list) k list []
        (omega (arith, inside, many, length-set lists at list))
        ∙ elim (cases_eq k at) [
          | inl same ↦ ap (λ (l : SmallVec Link). l.items)
              (get_or-set_at lists at k list list same (omega (arith, many, within))) ∙ is ∙ ap g (sym same)
          | inr other ↦
              ap (λ (l : SmallVec Link). l.items) (get_or-set_other lists at k list list other)
              ∙ list_is f count k lists (get_or lists k list) are inside
              (sym (get_or_default lists k (get_or lists k list) list (omega (arith, many, inside))))
              ∙ others k inside other
        ]

-- ---- number j

module _ (block : List Insn) (j : ℕ) where
  -- what depends on number i directly, with number j
  pub linked_one : (i : ℕ)
      → direct_before block i (suc j) ≡
      (direct_before block i j ++ linked_if (is_direct block i j) j (latency block i j))
  unfolding is_direct
  linked_one i = refl

  -- a number that j doesn't depend on directly has no more
  pub unlinked : (i : ℕ) → is_direct block i j ≡ false → direct_before block i j ≡ direct_before block i (suc j)
  unlinked i none = sym (linked_one i ∙ rw none (append-nil (direct_before block i j)))

  pub unlinked_late : (i : ℕ) → j ≤ i → direct_before block i j ≡ direct_before block i (suc j)
  unlinked_late i behind =
      sym (linked_one i ∙ ap (λ (o : Option ℤ). direct_before block i j ++ linked_if (is_direct block i j) j o)
      (sym (latency_late block i j behind))
      ∙ nothing (is_direct block i j))
    where
      nothing : (t : Bool) → (direct_before block i j ++ linked_if t j None) ≡ direct_before block i j
      nothing true = append-nil (direct_before block i j)
      nothing false = append-nil (direct_before block i j)

  -- a place further, over numbers that j doesn't depend on directly
  further : (at end i : ℕ) → at ≤ end → ((k : ℕ) → at ≤ k → k < end → is_direct block k j ≡ false)
      → linked_to block j at i ≡ linked_to block j end i
  further at end i order none = elim (cases_lt i at) [
    | inl before ↦ rw (lt-ltb i at before, lt-ltb i end (omega arith)) refl
    | inr behind ↦ elim (cases_lt i end) [
      | inl between ↦ rw (le-ltb i at behind, lt-ltb i end between) (unlinked i (none i behind between))
      | inr past ↦ rw (le-ltb i at behind, le-ltb i end past) refl
    ]
  ]

pub linked_first : (uses : List Uses) (j : ℕ) (earlier : List Link) (later : List (SmallVec Link)) → earlier ≡ []
    → AreLinkedBefore uses j later
    → AreLinkedTo uses j 0 earlier later
linked_first uses j earlier later none are = record {
  within = omega arith;
  needs = none;
  followers = lists_by (λ i. direct_before (insns_in uses) i j) (linked_to (insns_in uses) j 0) (length uses) later are
      (λ i low. rw (le-ltb i 0 (omega arith)) refl);
}

-- the next number that j depends on directly
pub linked_next : (uses : List Uses) (j at i : ℕ) (direct : NumberSet) (earlier more : List Link)
    (later : List (SmallVec Link)) (d list : SmallVec Link)
    → j < length uses → AreDirect uses j direct → IsLeastFrom direct at i → AreLinkedTo uses j at earlier later
    → more ≡ earlier ++ linked i (latency (insns_in uses) i j)
    → list.items ≡ (get_or later i d).items ++ linked j (latency (insns_in uses) i j)
    → AreLinkedTo uses j (i + 1) more (set later i list)
linked_next uses j at i direct earlier more later d list within are least are_linked added listed = record {
  within = omega (arith, inside);
  needs =
      pieces_more piece 0 i (i + 1) i earlier more (omega arith) (omega arith)
      (pieces_skip piece 0 at i earlier least.behind
      (λ k low high. rw (none k (omega (arith, low)) (omega (arith, high))) refl) are_linked.needs)
      (added ∙ rw is refl);
  followers =
      lists_set (linked_to block j at) (linked_to block j (i + 1)) (length uses) i later list are_linked.followers
      (omega (arith, inside, within))
      (listed ∙ ap (λ (links : List Link). links ++ linked j (latency block i j)) before ∙ one_more)
      (λ k low other. elim (cases_lt k i) [
        | inl before ↦ further block j at i k least.behind none
            ∙ rw (lt-ltb k i before, lt-ltb k (i + 1) (omega arith)) refl
        | inr behind ↦ rw (le-ltb k at (let low = least.behind in omega arith), le-ltb k (i + 1) (omega arith)) refl
      ]);
}
  where
    block : List Insn
    block = insns_in uses

    piece : ℕ → List Link
    piece k = linked_if (is_direct (insns_in uses) k j) k (latency (insns_in uses) k j)

    told : (number_in direct i ≡ true) → (i < j) × (is_direct (insns_in uses) i j ≡ true)
    told h = (let parts = and_parts (nat_lt i j) (is_direct (insns_in uses) i j) (sym (are i)
        ∙ h) in (ltb-true i j parts.0, parts.1))

    inside : i < j
    inside = (told least.is_in).0

    is : is_direct (insns_in uses) i j ≡ true
    is = (told least.is_in).1

    before : (get_or later i d).items ≡ direct_before (insns_in uses) i j
    before =
        list_is (linked_to (insns_in uses) j at) (length uses) i later (get_or later i d) are_linked.followers
        (omega (arith, inside, within))
        (sym (get_or_default later i (get_or later i d) d
        (omega (arith, lists_long _ _ later are_linked.followers, inside, within))))
        ∙ rw (le-ltb i at least.behind) refl

    one_more : (direct_before (insns_in uses) i j ++ linked j (latency (insns_in uses) i j)) ≡ linked_to (insns_in uses)
        j (i + 1) i
    one_more = rw (lt-ltb i (i + 1) (omega arith)) (sym (linked_one (insns_in uses) j i ∙ rw is refl))

    none : (k : ℕ) → at ≤ k → k < i → is_direct (insns_in uses) k j ≡ false
    none k low high = false_from_ne_true (is_direct (insns_in uses) k j)
        (λ h. both_ways (number_in direct k) (least.none k low high) (are k
        ∙ rw (lt-ltb k j (omega (arith, high, inside)), h) refl))

-- all are linked
pub linked_all : (uses : List Uses) (j at : ℕ) (direct : NumberSet) (earlier : List Link) (later : List (SmallVec Link))
    → AreDirect uses j direct
    → ((k : ℕ) → at ≤ k → number_in direct k ≡ false) → AreLinkedTo uses j at earlier later
    → (earlier ≡ direct_needs (insns_in uses) j) × AreLinkedBefore uses (j + 1) later
unfolding direct_needs
linked_all uses j at direct earlier later are end are_linked = (
  pieces_skip (λ k. linked_if (is_direct (insns_in uses) k j) k (latency (insns_in uses) k j)) 0 at j earlier
      are_linked.within
      (λ k low high. rw (none k (omega (arith, low)) (omega (arith, high))) refl) are_linked.needs,
  lists_by (linked_to (insns_in uses) j at) (λ i. direct_before (insns_in uses) i (j + 1)) (length uses) later
      are_linked.followers
      (λ i low. further (insns_in uses) j at j i are_linked.within none ∙ last i
      ∙ ap (direct_before (insns_in uses) i) next),
)
  where
    next : suc j ≡ j + 1
    next = omega arith

    none : (k : ℕ) → at ≤ k → k < j → is_direct (insns_in uses) k j ≡ false
    none k low high = false_from_ne_true (is_direct (insns_in uses) k j)
        (λ h. both_ways (number_in direct k) (end k low) (are k ∙ rw (lt-ltb k j high, h) refl))

    last : (i : ℕ) → linked_to (insns_in uses) j j i ≡ direct_before (insns_in uses) i (suc j)
    last i = elim (cases_lt i j) [
      | inl before ↦ rw (lt-ltb i j before) refl
      | inr behind ↦ rw (le-ltb i j behind) (unlinked_late (insns_in uses) j i behind)
    ]

-- the lists in the end
pub linked_in : (uses : List Uses) (later : List (SmallVec Link)) → AreLinkedBefore uses (length uses) later
    → AreLists (direct_followers (insns_in uses)) (length uses) later
unfolding direct_followers
linked_in uses later are =
    lists_by (λ i. direct_before (insns_in uses) i (length uses))
    (λ i. direct_before (insns_in uses) i (length (insns_in uses))) (length uses) later are
    (λ i low. ap (direct_before (insns_in uses) i) (sym (many_uses uses)))

-- ---- what has landed behind

-- the first of these links lead to later numbers of the block, and nothing lands behind them
pub record AreShort (block : List Insn) (i : ℕ) (links : List Link) (count : ℕ) : Type 0 where
  pub none : list_any (λ link. int_le (pos (delay_at block i)) (link.latency +ℤ pos (delay_at block link.number)))
      (take count links) ≡ false

-- the link at a place
pub link_at : (block : List Insn) (i j k : ℕ) (links : List Link) (d : Link) → links ≡ direct_before block i j
    → k < length links
    → IsLinkBefore block i j (get_or links k d)
link_at block i j k links d is low = All-get_or (IsLinkBefore block i j) links k d low (rw is (links_before block i j))

-- the delay of an instruction
pub delay_is : (uses : List Uses) (i : ℕ) (u : Uses) → i < length uses → u ≡ get_or uses i u
    → delay_at (insns_in uses) i ≡ u.delay
delay_is uses i u within at = ap delay_in (insn_at uses i u within at) ∙ sym u.delay_is

-- one link more, behind which nothing lands
pub short_more : (uses : List Uses) (i k : ℕ) (links : List Link) (u : Uses) (d : Link) (t : Bool) → i < length uses
    → u ≡ get_or uses i u → k < length links
    → t ≡ int_le (pos u.delay) ((get_or links k d).latency +ℤ pos (delay_at (insns_in uses) (get_or links k d).number))
    → t ≡ false
    → AreShort (insns_in uses) i links k → AreShort (insns_in uses) i links (k + 1)
short_more uses i k links u d t within at low is told short = record {
  none =
      list_any_more (λ (link : Link). int_le (pos (delay_at (insns_in uses) i))
      (link.latency +ℤ pos (delay_at (insns_in uses) link.number))) links k d low
      ∙ rw (short.none, delay_is uses i u within at, ← is, told) refl;
}

-- one behind which it does
pub land_found : (uses : List Uses) (i k : ℕ) (links : List Link) (u : Uses) (d : Link) (t : Bool) → i < length uses
    → u ≡ get_or uses i u → k < length links
    → t ≡ int_le (pos u.delay) ((get_or links k d).latency +ℤ pos (delay_at (insns_in uses) (get_or links k d).number))
    → t ≡ true
    → true ≡ land_behind (insns_in uses) i links
land_found uses i k links u d t within at low is told =
    sym (list_any_at (λ (link : Link). int_le (pos (delay_at (insns_in uses) i))
    (link.latency +ℤ pos (delay_at (insns_in uses) link.number))) links k d low
    (rw (delay_is uses i u within at, ← is, told) refl))

-- the next number that j depends on comes before j
pub inside_of : (uses : List Uses) (j at i : ℕ) (direct : NumberSet) → AreDirect uses j direct → IsLeastFrom direct at i
    → i < j
inside_of uses j at i direct are least = ltb-true i j
    (and_parts (nat_lt i j) (is_direct (insns_in uses) i j) (sym (are i) ∙ least.is_in)).0

-- what is written back to a list
pub written_back : {A : Type 0} (xs ys : List A) (n : ℕ) → n ≡ length xs → take n (xs ++ ys) ≡ xs
written_back [] ys n e = rw e refl
written_back (x ∷ xs) ys zero e = absurd (omega (arith, e))
written_back {A} (x ∷ xs) ys (suc n) e = ap (λ (rest : List A). x ∷ rest) (written_back xs ys n (omega (arith, e)))
