-- Chains of dependences, and marks along them.
use Rattle.std.proofs.Common.{◌≡◌, ℕ, suc, ◌+◌, ◌<◌, ◌≤◌, ◌≢◌, ℤ, Bool, true, false, List, length, IsTrue, get_or, set}
use Rattle.std.proofs.Common.{sym, ap, refl, ◌∙◌, subst, arith, inl, inr, ◌⊎◌, replicate, get_or-set_same}
use Rattle.std.proofs.Common.{get_or-set_other, length-set}
use Rattle.std.specs.Prelude.{All}
use Rattle.std.specs.List.{list_any}
use Rattle.std.proofs.lemmas.Bool.{cases_eq, cases_lt, false≢true}
use Rattle.std.proofs.lemmas.List.{get_or-replicate, get_or_past, length-replicate}
use Rattle.std.proofs.lemmas.List.Folds.{Any-from_list_any, list_any-from_Any}
use Rattle.std.proofs.lemmas.List.Elements.{All-contains, All-weaker}
use Rattle.c62_insn.specs.declared.insn.Insn.{Insn}
use Rattle.c62_rules.specs.Dependence.{Depends}
use Rattle.c62_depend.specs.declared.links.Link.{Link}
use Rattle.c62_depend.specs.Direct.{IsDirect, DependsDirectly, Chain, direct_needs, direct_followers}
use Rattle.c62_depend.specs.Direct.Chain.{single, longer}
use Rattle.c62_depend.proofs.Plans.{short_is}
use Rattle.c62_depend.proofs.DirectLists.{direct_needs_are, direct_followers_are}
use Rattle.c62_sheet.proofs.Founding.{depends_direct, chain_over}
use Rattle.c62_sheet.specs.Chain.{Leads, start, more, IsMarked, Marks}
use Rattle.c62_read.specs.declared.limits.TheConstants.{MOST_INSTRUCTIONS}

-- ---- chains

pub before : (block : List Insn) (i j : ℕ) → Depends block i j → i < j
before block i j dep = dep.1.before

pub leads_up : (block : List Insn) (i j : ℕ) → Leads block i j → i ≤ j
leads_up block i _ start = omega arith
leads_up block i j (more k _ led dep) =
    (let up = leads_up block i k led in let step : k < j = before block k j dep in omega arith)

-- a dependence in front of a chain
pub leads_first : (block : List Insn) (i k j : ℕ) → Depends block i k → Leads block k j → Leads block i j
leads_first block i k _ dep start = more i k start dep
leads_first block i k j dep (more m _ led last) = more m j (leads_first block i k m dep led) last

leads_along : (block : List Insn) (i k m : ℕ) (sum : ℤ) → Leads block i k → Chain block k m sum → Leads block i m
leads_along block i k m _ led (single _ cycles d) = more k m led (depends_direct block k m (cycles, d))
leads_along block i k m _ led (longer n _ sum cycles c d) = more n m (leads_along block i k n sum led c)
    (depends_direct block n m (cycles, d))

-- a chain is empty, or has a last direct dependence
pub leads_last : (block : List Insn) (i j : ℕ) → Leads block i j → (j ≡ i)
    ⊎ ((k : ℕ) × Leads block i k × DependsDirectly block k j)
leads_last block i _ start = inl refl
leads_last block i j (more k _ led dep) = (let c = chain_over block k j dep.0 dep.1 in inr (by_chain c.0 c.1))
  where
    by_chain : (sum : ℤ) → Chain block k j sum → (m : ℕ) × Leads block i m × DependsDirectly block m j
    by_chain _ (single _ cycles d) = (k, led, (cycles, d))
    by_chain _ (longer m _ sum cycles c d) = (m, leads_along block i k m sum led c, (cycles, d))

chain_next : (block : List Insn) (i j : ℕ) (sum : ℤ) → Chain block i j sum → (k : ℕ) × DependsDirectly block i k
    × Leads block k j
chain_next block i j _ (single _ cycles d) = (j, (cycles, d), start)
chain_next block i j _ (longer m _ sum cycles c d) =
    let w = chain_next block i m sum c in
    (w.0, w.1, more m j w.2 (depends_direct block m j (cycles, d)))

-- a chain is empty, or has a first direct dependence
pub leads_next : (block : List Insn) (i j : ℕ) → Leads block i j → (j ≡ i)
    ⊎ ((k : ℕ) × DependsDirectly block i k × Leads block k j)
leads_next block i _ start = inl refl
leads_next block i j (more k _ led dep) = elim (leads_next block i k led) [
  | inl e ↦
      let here : Depends block i j = subst (λ (x : ℕ). Depends block x j) e dep in
      let c = chain_over block i j here.0 here.1 in
      inr (chain_next block i j c.0 c.1)
  | inr w ↦ inr (w.0, w.1, more k j w.2 dep)
]

-- ---- the lists of a plan

-- whether the other end of a link is marked
abbrev pub is_linked : List Bool → Link → Bool
is_linked marks link = get_or marks link.number false

-- a marked number that j depends on directly
pub need_from : (block : List Insn) (j : ℕ) (marks : List Bool)
    → list_any (is_linked marks) (direct_needs block j) ≡ true
    → (k : ℕ) × IsMarked marks k × DependsDirectly block k j
need_from block j marks h =
    let w = Any-from_list_any (is_linked marks) (direct_needs block j) h in
    let l = All-contains (λ (link : Link). IsDirect block link.number j link.latency) (direct_needs block j) w.1
    (direct_needs_are block j).all (w.0, w.2, w.3) in
    (w.1.number, w.4, (w.1.latency, l))

pub need_of : (block : List Insn) (j k : ℕ) (marks : List Bool) → IsMarked marks k → DependsDirectly block k j
    → list_any (is_linked marks) (direct_needs block j) ≡ true
need_of block j k marks marked l =
    let link : Link = record { number = k; latency = l.0 } in
    let at = (direct_needs_are block j).each link l.1 in
    list_any-from_Any (is_linked marks) (direct_needs block j) (at.0, link, at.1, at.2, marked)

-- a marked number that depends on i directly
pub follower_from : (block : List Insn) (i : ℕ) (marks : List Bool)
    → list_any (is_linked marks) (direct_followers block i) ≡ true
    → (k : ℕ) × IsMarked marks k × DependsDirectly block i k
follower_from block i marks h =
    let w = Any-from_list_any (is_linked marks) (direct_followers block i) h in
    let l = All-contains (λ (link : Link). IsDirect block i link.number link.latency) (direct_followers block i) w.1
    (direct_followers_are block i).all (w.0, w.2, w.3) in
    (w.1.number, w.4, (w.1.latency, l))

pub follower_of : (block : List Insn) (i k : ℕ) (marks : List Bool) → IsMarked marks k → DependsDirectly block i k
    → list_any (is_linked marks) (direct_followers block i) ≡ true
follower_of block i k marks marked l =
    let link : Link = record { number = k; latency = l.0 } in
    let at = (direct_followers_are block i).each link l.1 in
    list_any-from_Any (is_linked marks) (direct_followers block i) (at.0, link, at.1, at.2, marked)

-- the numbers of links are those of the block
pub needs_within : (block : List Insn) (j n : ℕ) → j ≤ n → All (λ link. link.number < n) (direct_needs block j)
needs_within block j n most =
    All-weaker (λ (link : Link). IsDirect block link.number j link.latency) (λ link. link.number < n)
    (λ link d. (let before : link.number < j = (short_is block link.number j link.latency d.is).before in omega arith))
    (direct_needs block j) (direct_needs_are block j).all

pub followers_within : (block : List Insn) (i n : ℕ) → length block ≤ n
    → All (λ link. link.number < n) (direct_followers block i)
followers_within block i n most =
    All-weaker (λ (link : Link). IsDirect block i link.number link.latency) (λ link. link.number < n)
    (λ link d. (let in_block : link.number < length block = (short_is block i link.number link.latency d.is).within in
    omega arith)) (direct_followers block i)
    (direct_followers_are block i).all

-- what depends on a number directly is behind it, and in the block
behind : (block : List Insn) (i j : ℕ) → DependsDirectly block i j → i < j
behind block i j l = (short_is block i j l.0 l.1.is).before

follower_in : (block : List Insn) (i j : ℕ) → DependsDirectly block i j → j < length block
follower_in block i j l = (short_is block i j l.0 l.1.is).within

-- ---- marks

-- the numbers of the block from low to high are marked where they are such
pub record AreMarked (block : List Insn) (Is : ℕ → Type 0) (low high : ℕ) (marks : List Bool) : Type 0 where
  pub many : length marks ≡ MOST_INSTRUCTIONS
  pub right : (k : ℕ) → low ≤ k → k < high → IsMarked marks k → Is k
  pub all : (k : ℕ) → low ≤ k → k < high → Is k → IsMarked marks k

-- one number more is marked as it should be
marked_same : (block : List Insn) (Is : ℕ → Type 0) (low high i : ℕ) (marks : List Bool) (b : Bool) → i < length marks
    → (IsTrue b → Is i) → (Is i → IsTrue b)
    → ((k : ℕ) → low ≤ k → k < high → k ≢ i → IsMarked marks k → Is k)
    → ((k : ℕ) → low ≤ k → k < high → k ≢ i → Is k → IsMarked marks k)
    → length marks ≡ MOST_INSTRUCTIONS → AreMarked block Is low high (set marks i b)
marked_same block Is low high i marks b within right all others_right others_all many = record {
  many = length-set marks i b ∙ many;
  right = λ k above below marked. elim (cases_eq k i) [
    | inl e ↦ subst Is (sym e) (right (sym (get_or-set_same marks i b false within)
        ∙ ap (λ (x : ℕ). get_or (set marks i b) x false) (sym e) ∙ marked))
    | inr ne ↦ others_right k above below ne (sym (get_or-set_other marks i k b false ne) ∙ marked)
  ];
  all = λ k above below is. elim (cases_eq k i) [
    | inl e ↦ ap (λ (x : ℕ). get_or (set marks i b) x false) e ∙ get_or-set_same marks i b false within
        ∙ all (subst Is e is)
    | inr ne ↦ get_or-set_other marks i k b false ne ∙ others_all k above below ne is
  ];
}

many_blank : length (replicate MOST_INSTRUCTIONS false) ≡ MOST_INSTRUCTIONS
many_blank = length-replicate MOST_INSTRUCTIONS false

blank : (k : ℕ) → IsMarked (replicate MOST_INSTRUCTIONS false) k → ⊥
blank k marked = elim (cases_lt k MOST_INSTRUCTIONS) [
  | inl lt ↦ false≢true (sym (get_or-replicate MOST_INSTRUCTIONS k false false lt) ∙ marked)
  | inr le ↦ false≢true (sym (get_or_past (replicate MOST_INSTRUCTIONS false) k false (rw many_blank le)) ∙ marked)
]

pub led_start : (block : List Insn) (i : ℕ) → i < MOST_INSTRUCTIONS
    → AreMarked block (Leads block i) 0 (i + 1) (set (replicate MOST_INSTRUCTIONS false) i true)
led_start block i within =
    marked_same block (Leads block i) 0 (i + 1) i (replicate MOST_INSTRUCTIONS false) true
    (rw many_blank within)
    (λ _. start) (λ _. refl)
    (λ k _ _ ne marked. absurd (blank k marked))
    (λ k _ below ne led. (let up = leads_up block i k led in absurd (ne (omega arith))))
    many_blank

pub led_more : (block : List Insn) (i j : ℕ) (marks : List Bool) → i < j → j < MOST_INSTRUCTIONS
    → AreMarked block (Leads block i) 0 j marks
    → AreMarked block (Leads block i) 0 (j + 1) (set marks j (list_any (is_linked marks) (direct_needs block j)))
led_more block i j marks after within so_far =
    marked_same block (Leads block i) 0 (j + 1) j marks (list_any (is_linked marks) (direct_needs block j))
    (rw so_far.many within)
    (λ h. (let w = need_from block j marks h in
    let step : w.0 < j = behind block w.0 j w.2 in
    more w.0 j (so_far.right w.0 (omega arith) step w.1) (depends_direct block w.0 j w.2)))
    (λ led. elim (leads_last block i j led) [
      | inl e ↦ absurd (let e : j ≡ i = e in omega arith)
      | inr w ↦ (let step : w.0 < j = behind block w.0 j w.2 in need_of block j w.0 marks
          (so_far.all w.0 (omega arith) step w.1) w.2)
    ])
    (λ k above below ne. so_far.right k above (omega arith))
    (λ k above below ne. so_far.all k above (omega arith))
    so_far.many

pub leading_start : (block : List Insn) (i n : ℕ) → i < MOST_INSTRUCTIONS
    → AreMarked block (λ k. Leads block k i) i n (set (replicate MOST_INSTRUCTIONS false) i true)
leading_start block i n within =
    marked_same block (λ k. Leads block k i) i n i (replicate MOST_INSTRUCTIONS false) true
    (rw many_blank within)
    (λ _. start) (λ _. refl)
    (λ k _ _ ne marked. absurd (blank k marked))
    (λ k above _ ne led. (let up = leads_up block k i led in absurd (ne (omega arith))))
    many_blank

pub leading_more : (block : List Insn) (i j m : ℕ) (marks : List Bool) → m ≡ suc j → m ≤ i → i < MOST_INSTRUCTIONS
    → AreMarked block (λ k. Leads block k i) m (length block) marks
    → AreMarked block (λ k. Leads block k i) j (length block)
    (set marks j (list_any (is_linked marks) (direct_followers block j)))
leading_more block i j m marks next most within so_far =
    marked_same block (λ k. Leads block k i) j (length block) j marks
    (list_any (is_linked marks) (direct_followers block j)) (rw so_far.many (omega arith))
    (λ h. (let w = follower_from block j marks h in
    let step : j < w.0 = behind block j w.0 w.2 in
    leads_first block j w.0 i (depends_direct block j w.0 w.2)
    (so_far.right w.0 (omega arith) (follower_in block j w.0 w.2) w.1)))
    (λ led. elim (leads_next block j i led) [
      | inl e ↦ absurd (let e : i ≡ j = e in omega arith)
      | inr w ↦ (let step : j < w.0 = behind block j w.0 w.1 in follower_of block j w.0 marks
          (so_far.all w.0 (omega arith) (follower_in block j w.0 w.1) w.2) w.1)
    ])
    (λ k above below ne. so_far.right k (omega arith) below)
    (λ k above below ne. so_far.all k (omega arith) below)
    so_far.many

pub marks_from : (block : List Insn) (Is : ℕ → Type 0) (high : ℕ) (marks : List Bool) → length block ≤ high
    → AreMarked block Is 0 high marks → Marks block Is marks
marks_from block Is high marks all marked k within =
    (marked.right k (omega arith) (omega arith), marked.all k (omega arith) (omega arith))

pub marks_to : (block : List Insn) (i low : ℕ) (marks : List Bool) → low ≡ 0
    → AreMarked block (λ k. Leads block k i) low (length block) marks
    → Marks block (λ k. Leads block k i) marks
marks_to block i low marks all marked k within =
    (marked.right k (omega arith) within, marked.all k (omega arith) within)
