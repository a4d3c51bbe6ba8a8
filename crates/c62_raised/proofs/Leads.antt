-- The longest chain to a number, by those to what it depends on directly.
use Rattle.std.proofs.Common.{arith, ◌≡◌, ℕ, zero, suc, ◌<◌, ◌≤◌, List, [], ◌∷◌, length, get_or, Option, Some, None}
use Rattle.std.proofs.Common.{refl, sym, ap, ◌∙◌, subst, inl, inr, ◌⊎◌, true, false}
use Rattle.std.specs.Prelude.{ℤ, pos, ◌+ℤ◌, ◌≤ℤ◌, nat_eq, fold, All, Contains}
use Rattle.std.proofs.lemmas.Int.{ints}
use Rattle.std.proofs.lemmas.Bool.{cases_eq}
use Rattle.std.proofs.lemmas.Bool.Decides.{nat_tests}
use Rattle.std.proofs.lemmas.Option.{same_Some, none-some}
use Rattle.std.proofs.lemmas.List.Elements.{All-contains, All-get_or}
use Rattle.c62_insn.specs.declared.insn.Insn.{Insn}
use Rattle.c62_depend.specs.declared.links.Link.{Link}
use Rattle.c62_depend.specs.Latency.{latency, greater, greatest_by}
use Rattle.c62_depend.specs.Direct.{IsDirect, direct_needs, Chain as DirectChain}
use Rattle.c62_depend.specs.Direct.Chain.{single as one_direct, longer as more_direct}
use Rattle.c62_depend.proofs.DirectLists.{direct_needs_are}
use Rattle.c62_depend.proofs.Greatest.{IsGreatest, IsGreatest-is, IsGreatest-same, IsGreatest-greater}
use Rattle.c62_depend.proofs.Plans.{short_is}
use Rattle.c62_depend.proofs.AllRelays.{direct_ones_bind}
use Rattle.c62_raised.specs.Chain.{Chain, IsLongest, lead_in}
use Rattle.c62_raised.specs.Chain.Chain.{single, longer}
use Rattle.c62_raised.specs.Steps.{begun, behind_by, through, IsSmall, AreLongestBelow}
use Rattle.c62_raised.proofs.Chains.{chain_after, small_lead}
use Rattle.c62_read.specs.declared.limits.TheConstants.{MOST_INSTRUCTIONS}

-- ---- the greatest of what a list has

abbrev AnyOf : (Link → Option ℤ) → List Link → ℤ → Type 0
AnyOf f [] b = ⊥
AnyOf f (x ∷ xs) b = (f x ≡ Some b) ⊎ AnyOf f xs b

fold_is : (f : Link → Option ℤ) (P : ℤ → Type 0) (a : Option ℤ) (links : List Link) → IsGreatest P a
    → IsGreatest (λ b. P b ⊎ AnyOf f links b) (fold (λ most link. greater most (f link)) a links)
fold_is f P a [] is = IsGreatest-same P (λ b. P b
    ⊎ AnyOf f [] b) a is (λ b p. inl p) (λ b either. elim either [ inl p ↦ p | inr none ↦ absurd none ])
fold_is f P a (x ∷ xs) is =
    IsGreatest-same (λ b. (P b ⊎ (f x ≡ Some b)) ⊎ AnyOf f xs b) (λ b. P b
    ⊎ AnyOf f (x ∷ xs) b) (fold (λ most link. greater most (f link)) (greater a (f x)) xs)
    (fold_is f (λ b. P b ⊎ (f x ≡ Some b)) (greater a (f x)) xs
    (IsGreatest-greater P (λ b. f x ≡ Some b) a (f x) is (IsGreatest-is (f x))))
    (λ b either. elim either [ inl w ↦ elim w [ inl p ↦ inl p | inr e ↦ inr (inl e) ] | inr rest ↦ inr (inr rest) ])
    (λ b either. elim either [ inl p ↦ inl (inl p) | inr w ↦ elim w [ inl e ↦ inl (inr e) | inr rest ↦ inr rest ] ])

greatest_is : (f : Link → Option ℤ) (links : List Link) → IsGreatest (AnyOf f links) (greatest_by f links)
greatest_is f links =
    IsGreatest-same (λ b. ⊥
    ⊎ AnyOf f links b) (AnyOf f links) (greatest_by f links) (fold_is f (λ b. ⊥) None links (λ b none. none))
    (λ b either. elim either [ inl none ↦ absurd none | inr rest ↦ rest ]) (λ b rest. inr rest)

any_from : (f : Link → Option ℤ) (links : List Link) (link : Link) (b : ℤ) (k : ℕ) → k < length links
    → get_or links k link ≡ link → f link ≡ Some b
    → AnyOf f links b
any_from f [] link b k low is e = absurd (omega (arith, low))
any_from f (x ∷ xs) link b zero low is e = inl (ap f is ∙ e)
any_from f (x ∷ xs) link b (suc k) low is e = inr (any_from f xs link b k (omega (arith, low)) is e)

record IsFound (f : Link → Option ℤ) (links : List Link) (b : ℤ) : Type 0 where
  link : Link
  in_it : Contains links link
  gives : f link ≡ Some b

found : (f : Link → Option ℤ) (links : List Link) (b : ℤ) → AnyOf f links b → IsFound f links b
found f [] b any = absurd any
found f (x ∷ xs) b (inl e) = record { link = x; in_it = (0, omega arith, refl); gives = e }
found f (x ∷ xs) b (inr any) =
    let rest = found f xs b any in
    let w = rest.in_it in
    record {
      link = rest.link;
      in_it = (suc w.0, (let low : w.0 < length xs = w.1 in omega (arith, low)), w.2);
      gives =
          rest.gives;
    }

-- ---- chains by direct dependences

-- a chain with a chain of direct dependences behind it
joined : (block : List Insn) (i k j : ℕ) (one other : ℤ) → Chain block i k one → DirectChain block k j other
    → (sum : ℤ) × Chain block i j sum × ((one +ℤ other) ≤ℤ sum)
joined block i k j one other first (one_direct _ _ direct) =
    (one +ℤ other, longer k j one other first direct.is, omega (arith, ints))
joined block i k j one other first (more_direct m _ sum cycles second direct) =
    let w = joined block i k m one sum first second in
    let low : (one +ℤ sum) ≤ℤ w.0 = w.2 in
    (w.0 +ℤ cycles, longer m j w.0 cycles w.1 direct.is, omega (arith, ints))

-- and such a chain alone
undirected : (block : List Insn) (i j : ℕ) (cycles : ℤ) → DirectChain block i j cycles → (sum : ℤ) × Chain block i j sum
    × (cycles ≤ℤ sum)
undirected block i j cycles (one_direct _ _ direct) = (cycles, single j cycles direct.is, omega (arith, ints))
undirected block i j cycles (more_direct k _ sum last before direct) =
    let w = undirected block i k sum before in
    let low : sum ≤ℤ w.0 = w.2 in
    (w.0 +ℤ last, longer k j w.0 last w.1 direct.is, omega (arith, ints))

longest_some : (block : List Insn) (i j : ℕ) (o : Option ℤ) (cycles : ℤ) → IsLongest block i j o
    → Chain block i j cycles
    → (most : ℤ) × (o ≡ Some most) × (cycles ≤ℤ most)
longest_some block i j None cycles is chain = absurd (is cycles chain)
longest_some block i j (Some most) cycles is chain = (most, refl, is.1 cycles chain)

begun_itself : (leads : List (Option ℤ)) (i k : ℕ) → k ≡ i → begun leads i k ≡ Some (pos 0)
begun_itself leads i k e =
    let same : nat_eq k i ≡ true = grind (arith, e, nat_tests) in
    rw same refl

begun_other : (leads : List (Option ℤ)) (i k : ℕ) → (k ≡ i → ⊥) → begun leads i k ≡ lead_in leads k
begun_other leads i k ne =
    let other : nat_eq k i ≡ false = grind (arith, ne, nat_tests) in
    rw other refl

behind_some : (latency : ℤ) (o : Option ℤ) (cycles : ℤ) → behind_by latency o ≡ Some cycles
    → (before : ℤ) × (o ≡ Some before) × (before +ℤ latency ≡ cycles)
behind_some latency None cycles e = absurd (none-some cycles e)
behind_some latency (Some before) cycles e = (before, refl, same_Some (before +ℤ latency) cycles e)

module _ (block : List Insn) (i j : ℕ) (leads : List (Option ℤ)) (below : AreLongestBelow block i j leads) where
  abbrev Gives : ℤ → Type 0
  Gives cycles = AnyOf (through leads i) (direct_needs block j) cycles

  gives : (k : ℕ) (before cycles : ℤ) → IsDirect block k j cycles → begun leads i k ≡ Some before
      → Gives (before +ℤ cycles)
  gives k before cycles direct e =
      let link : Link = record { number = k; latency = cycles } in
      let w = (direct_needs_are block j).each link direct in
      any_from (through leads i) (direct_needs block j) link (before +ℤ cycles) w.0 w.1 w.2 (ap (behind_by cycles) e)

  -- how many cycles number k comes behind is told by a chain, unless it is i
  started : (k : ℕ) (before : ℤ) → k < j → begun leads i k ≡ Some before → ((k ≡ i) × (before ≡ pos 0))
      ⊎ Chain block i k before
  started k before low e = elim (cases_eq k i) [
    | inl same ↦ inl (same, same_Some before (pos 0) (sym e ∙ begun_itself leads i k same))
    | inr ne ↦
        (let told : lead_in leads k ≡ Some before = sym (begun_other leads i k ne) ∙ e in
        let w = below k low in
        inr (by_lead (lead_in leads k) w told))
  ]
    where
      by_lead : (o : Option ℤ) → IsLongest block i k o → o ≡ Some before → Chain block i k before
      by_lead None none at = absurd (none-some before at)
      by_lead (Some most) w at = subst (Chain block i k) (same_Some most before at) w.0

  -- what a chain reaches is told
  told : (k : ℕ) (cycles : ℤ) → k < j → Chain block i k cycles → (before : ℤ) × (begun leads i k ≡ Some before)
      × (cycles ≤ℤ before)
  told k cycles low chain =
      let w = longest_some block i k (lead_in leads k) cycles (below k low) chain in
      let after = (chain_after block i k cycles chain).0 in
      (w.0, begun_other leads i k (λ e. omega (arith, e, after)) ∙ w.1, w.2)

  reaches : (k : ℕ) (before cycles : ℤ) → k < j → begun leads i k ≡ Some before → DirectChain block k j cycles
      → (most : ℤ) × Gives most × ((before +ℤ cycles) ≤ℤ most)
  reaches k before cycles low e (one_direct _ _ direct) =
      (before +ℤ cycles, gives k before cycles direct e, omega (arith, ints))
  reaches k before cycles low e (more_direct m _ sum last second direct) =
      let near = (short_is block m j last direct.is).before in
      let chain = by_start (started k before low e) in
      let w = told m chain.0 near chain.1 in
      let one : (before +ℤ sum) ≤ℤ chain.0 = chain.2 in
      let other : chain.0 ≤ℤ w.0 = w.2 in
      (w.0 +ℤ last, gives m w.0 last direct w.1, omega (arith, ints, one, other))
    where
      by_start : ((k ≡ i) × (before ≡ pos 0)) ⊎ Chain block i k before → (most : ℤ) × Chain block i m most
          × ((before +ℤ sum) ≤ℤ most)
      by_start (inl start) =
          let w = undirected block i m sum (subst (λ (n : ℕ). DirectChain block n m sum) start.0 second) in
          let one : sum ≤ℤ w.0 = w.2 in
          let none = start.1 in
          (w.0, w.1, omega (arith, ints, one, none))
      by_start (inr chain) = joined block i k m before sum chain second

  covered : (cycles : ℤ) → Chain block i j cycles → (most : ℤ) × Gives most × (cycles ≤ℤ most)
  covered cycles (single _ _ is) =
      let bound = direct_ones_bind block i j cycles is in
      let low = (short_is block i j cycles is).before in
      let w = reaches i (pos 0) bound.0 low (begun_itself leads i i refl) bound.1 in
      let one : cycles ≤ℤ bound.0 = bound.2 in
      let other : (pos 0 +ℤ bound.0) ≤ℤ w.0 = w.2 in
      (w.0, w.1, omega (arith, ints, one, other))
  covered cycles (longer k _ sum last before is) =
      let bound = direct_ones_bind block k j last is in
      let low = (short_is block k j last is).before in
      let start = told k sum low before in
      let w = reaches k start.0 bound.0 low start.1 bound.1 in
      let one : last ≤ℤ bound.0 = bound.2 in
      let two : sum ≤ℤ start.0 = start.2 in
      let three : (start.0 +ℤ bound.0) ≤ℤ w.0 = w.2 in
      (w.0, w.1, omega (arith, ints, one, two, three))

  chained : (cycles : ℤ) → Gives cycles → Chain block i j cycles
  chained cycles any =
      let w = found (through leads i) (direct_needs block j) cycles any in
      let direct : IsDirect block w.link.number j w.link.latency =
      All-contains (λ (link : Link). IsDirect block link.number j link.latency) (direct_needs block j) w.link
      (direct_needs_are block j).all w.in_it in
      let before = behind_some w.link.latency (begun leads i w.link.number) cycles w.gives in
      let low = (short_is block w.link.number j w.link.latency direct.is).before in
      by_start w.link.number w.link.latency before.0 direct.is before.2 (started w.link.number before.0 low before.1)
    where
      by_start : (k : ℕ) (last before : ℤ) → latency block k j ≡ Some last → before +ℤ last ≡ cycles
          → ((k ≡ i) × (before ≡ pos 0)) ⊎ Chain block i k before
          → Chain block i j cycles
      by_start k last before is e (inl start) =
          let none = start.1 in
          let same : last ≡ cycles = omega (arith, ints, none, e) in
          subst (Chain block i j) same (single j last (subst (λ (n : ℕ). latency block n j ≡ Some last) start.0 is))
      by_start k last before is e (inr chain) = subst (Chain block i j) e (longer k j before last chain is)

  longest_is : (o : Option ℤ) → IsGreatest Gives o → IsLongest block i j o
  longest_is None none = λ cycles chain. (let w = covered cycles chain in none w.0 w.1)
  longest_is (Some most) is = (chained most is.0, λ cycles chain. no_longer cycles (covered cycles chain))
    where
      no_longer : (cycles : ℤ) → ((m : ℤ) × Gives m × (cycles ≤ℤ m)) → cycles ≤ℤ most
      no_longer cycles w =
          let low : cycles ≤ℤ w.0 = w.2 in
          let high = is.1 w.0 w.1 in
          omega (arith, ints, low, high)

  pub longest_by : (o : Option ℤ) → o ≡ greatest_by (through leads i) (direct_needs block j) → IsLongest block i j o
  longest_by o e = subst (IsLongest block i j) (sym e)
      (longest_is (greatest_by (through leads i) (direct_needs block j))
      (greatest_is (through leads i) (direct_needs block j)))

-- ---- the links of a number

pub need_at : (block : List Insn) (j k : ℕ) (links : List Link) (d : Link) → links ≡ direct_needs block j
    → k < length links
    → IsDirect block (get_or links k d).number j (get_or links k d).latency
need_at block j k links d e within =
    let Is : Link → Type 0 = λ link. IsDirect block link.number j link.latency in
    All-get_or Is links k d within (subst (λ (ls : List Link). All Is ls) (sym e) (direct_needs_are block j).all)

pub need_before : (block : List Insn) (j k : ℕ) (links : List Link) (d : Link) → links ≡ direct_needs block j
    → k < length links
    → (get_or links k d).number < j
need_before block j k links d e within =
    (short_is block (get_or links k d).number j (get_or links k d).latency
    (need_at block j k links d e within).is).before

pub small_begun : (block : List Insn) (i j k : ℕ) (leads : List (Option ℤ)) → length block ≤ MOST_INSTRUCTIONS
    → AreLongestBelow block i j leads → k < j
    → IsSmall (begun leads i k)
small_begun block i j k leads few below low = elim (cases_eq k i) [
  | inl e ↦ subst IsSmall (sym (begun_itself leads i k e)) (omega (arith, ints), omega (arith, ints))
  | inr ne ↦ subst IsSmall (sym (begun_other leads i k ne)) (small_lead block i k (lead_in leads k) few (below k low))
]
