-- Where each instruction comes late enough behind all that it depends on directly, each does behind all that it depends
-- on.
use Rattle.std.proofs.Common.{arith, ◌≡◌, ℕ, ◌+◌, ◌<◌, ◌≤◌, ℤ, ◌+ℤ◌, ◌≤ℤ◌, List, length, get_or, Option, Some, None}
use Rattle.std.proofs.Common.{refl, sym, ap, inl, inr, subst, ◌∙◌, take}
use Rattle.std.specs.Prelude.{All, Contains, slice_get}
use Rattle.std.proofs.lemmas.Bool.{cases_lt}
use Rattle.std.proofs.lemmas.Option.{same_Some, slice_get_cases}
use Rattle.std.proofs.lemmas.Int.{ints}
use Rattle.std.proofs.lemmas.List.{get_or_default}
use Rattle.std.proofs.lemmas.List.Elements.{All-get_or}
use Rattle.c62_insn.specs.declared.insn.Insn.{Insn}
use Rattle.c62_packet.specs.declared.placed.Placed.{Placed}
use Rattle.c62_depend.specs.declared.links.Link.{Link}
use Rattle.c62_depend.specs.Latency.{latency}
use Rattle.c62_depend.specs.Direct.{IsDirect, Chain, direct_needs}
use Rattle.c62_depend.specs.Direct.Chain.{single, longer}
use Rattle.c62_depend.specs.Plan.{IsShort}
use Rattle.c62_depend.proofs.DirectLists.{direct_needs_are}
use Rattle.c62_depend.proofs.Plans.{short_is}
use Rattle.c62_depend.proofs.AllRelays.{direct_ones_bind}
use Rattle.c62_check.specs.Early.{gap_of, KeepsAll, IsKept, KeepsNeeds}

-- ---- one instruction

-- the first of these links are kept
abbrev pub AreKept : List Placed → ℕ → List Link → ℕ → Type 0
AreKept placed j links k = (h : ℕ) (d : Link) → h < k → h < length links
    → IsKept placed (get_or links h d).number j (get_or links h d).latency

pub kept_more : (placed : List Placed) (j : ℕ) (links : List Link) (k : ℕ) (d : Link) → AreKept placed j links k
    → IsKept placed (get_or links k d).number j (get_or links k d).latency → AreKept placed j links (k + 1)
kept_more placed j links k d are one h e lt within = elim (cases_lt h k) [
  | inl before ↦ are h e before within
  | inr last ↦
      let same : k ≡ h = omega (arith, lt, last) in
      let there : get_or links k d ≡ get_or links h e = ap (λ (n : ℕ). get_or links n d) same
      ∙ get_or_default links h d e within in
      subst (λ (link : Link). IsKept placed link.number j link.latency) there one
]

module _ (block : List Insn) (placed : List Placed) (j : ℕ) (links : List Link) (is : links ≡ direct_needs block j)
  where
    pub need_at : (k : ℕ) (d : Link) → k < length links
        → IsDirect block (get_or links k d).number j (get_or links k d).latency
    need_at k d lt = All-get_or (λ (x : Link). IsDirect block x.number j x.latency) links k d lt
        (rw is (direct_needs_are block j).all)

    pub need_before : (k : ℕ) (d : Link) → k < length links → (get_or links k d).number < j
    need_before k d lt = (short_is block (get_or links k d).number j (get_or links k d).latency
        (need_at k d lt).is).before

    pub keeps_needs : (k : ℕ) → length links ≤ k → AreKept placed j links k → KeepsNeeds block placed j
    keeps_needs k all are i needs d p q at_p at_q =
        let link : Link = record { number = i; latency = needs } in
        let there : Contains links link = rw is ((direct_needs_are block j).each link d) in
        let kept : IsKept placed i j needs = rw there.2 at (are there.0 link (omega (arith, there.1, all)) there.1) in
        kept p q at_p at_q

-- ---- all

read_in : (placed : List Placed) (m : ℕ) → m < length placed → (r : Placed) × (slice_get placed m ≡ Some r)
read_in placed m lt = elim (slice_get_cases placed m).1 [
  | inl w ↦ (w.0, w.2)
  | inr w ↦ absurd (omega (arith, lt, w.0))
]

-- each of the numbers below k comes late enough behind all that it depends on directly
abbrev pub KeepBelow : List Insn → List Placed → ℕ → Type 0
KeepBelow block placed k = (j : ℕ) → j < k → KeepsNeeds block placed j

pub keep_more : (block : List Insn) (placed : List Placed) (k : ℕ) → KeepBelow block placed k
    → KeepsNeeds block placed k → KeepBelow block placed (k + 1)
keep_more block placed k below one j lt = elim (cases_lt j k) [
  | inl before ↦ below j before
  | inr last ↦ (let same : k ≡ j = omega (arith, lt, last) in subst (KeepsNeeds block placed) same one)
]

module _ (block : List Insn) (placed : List Placed) (k : ℕ) (sized : length placed ≡ length block)
    (all : length block ≤ k) (below : KeepBelow block placed k) where
  along : (i j : ℕ) (sum : ℤ) → Chain block i j sum → IsKept placed i j sum
  along i j _ (single _ cycles d) p q at_p at_q =
      let inside : j < length block = (short_is block i j cycles d.is).within in
      below j (omega (arith, inside, all)) i cycles d p q at_p at_q
  along i j _ (longer m _ sum cycles c d) p q at_p at_q =
      let short : IsShort block m j cycles = short_is block m j cycles d.is in
      let before : m < j = short.before in
      let inside : j < length block = short.within in
      let r = read_in placed m (omega (arith, before, inside, sized)) in
      let first : sum ≤ℤ gap_of p r.0 = along i m sum c p r.0 at_p r.1 in
      let second : cycles ≤ℤ gap_of r.0 q = below j (omega (arith, inside, all)) m cycles d r.0 q r.1 at_q in
      omega (arith, ints, first, second)

  pub keep_all : (j : ℕ) → KeepsAll block placed j
  keep_all j i p q needs at_p at_q e =
      let w = direct_ones_bind block i j needs e in
      let kept : w.0 ≤ℤ gap_of p q = along i j w.0 w.1 p q at_p at_q in
      let low : needs ≤ℤ w.0 = w.2 in
      omega (arith, ints, kept, low)
