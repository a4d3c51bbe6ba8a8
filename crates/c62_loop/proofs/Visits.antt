-- Visits one behind the other, and the instructions that they issue.
use Rattle.std.proofs.Common.{◌≡◌, ◌≢◌, ℕ, ◌<◌, ◌≤◌, true, false, ◌&&◌, eqb, List, [], ◌∷◌, ◌++◌, map, length}
use Rattle.std.proofs.Common.{Some, None, refl, sym, ◌∙◌, ap, inl, inr, ⊎_elim, arith}
use Rattle.std.specs.Prelude.{All, slice_get, is_some, filter, count_by, option_map}
use Rattle.std.specs.List.Sorted.{IsStrictlyIncreasing}
use Rattle.std.proofs.lemmas.Bool.{cases_eq, and_parts, or_left, ne_eqb, lt-leb}
use Rattle.std.proofs.lemmas.Option.{none-some, slice_get-map}
use Rattle.std.proofs.lemmas.List.{length-map, append-nil}
use Rattle.std.proofs.lemmas.List.Elements.{filter-append}
use Rattle.std.proofs.lemmas.List.Sums.{length-filter}
use Rattle.c62_op.specs.Units.{index_of}
use Rattle.c62_packet.specs.declared.placed.Placed.{Placed}
use Rattle.c62_packet.specs.Packed.{is_branching}
use Rattle.c62_meaning.specs.Packet.{Did}
use Rattle.c62_meaning.proofs.Lookup.{In, In-append_cases, In-append_left, In-append_right}
use Rattle.c62_flight.specs.Text.{Text, Position, no_row, row_of}
use Rattle.c62_flight.specs.Issued.{Visit, Issued, issue_in, issued_in, issued_on, over_of}
use Rattle.c62_flight.specs.Broken.{has_branched, broken}
use Rattle.c62_flight.specs.Flight.{stands_after, Leads}
use Rattle.c62_flight.proofs.Lists.{filter-none, filter-map}
use Rattle.c62_flight.proofs.Fronts.{over_later}
use Rattle.c62_flight.proofs.PathTimes.{in_visit}
use Rattle.c62_loop.specs.Along.{LeadAlong}
use Rattle.c62_loop.proofs.Lists.{at_place, get_cases, rising_once, filter_fewer}
use Rattle.std.proofs.lemmas.Bool.Decides.{nat_tests}

module _ (text : Text) (issued : Issued) where
  abbrev Along : Position → ℕ → List Visit → Position → ℕ → Type 0
  Along position cycle visits last end = LeadAlong text issued position cycle visits last end

  longer : (visit : Visit) → visit.start < over_of text issued visit
  longer visit = over_later issued visit.start (row_of text visit.row).idle

  ends_later : (position : Position) (cycle : ℕ) (visits : List Visit) (last : Position) (end : ℕ)
      → Along position cycle visits last end → cycle ≤ end
  ends_later position cycle [] last end along = let e : end ≡ cycle = along.1 in omega arith
  ends_later position cycle (visit ∷ visits) last end along =
      let when : cycle ≡ visit.start = along.1 in
      let l : visit.start < over_of text issued visit = longer visit in
      let u : over_of text issued visit ≤ end = ends_later (stands_after text issued visit) (over_of text issued visit)
      visits last end along.3 in omega arith

  late : (position : Position) (cycle : ℕ) (visits : List Visit) (last : Position) (end : ℕ)
      → Along position cycle visits last end
      → (p : Placed) → In p (issued_on text visits) → cycle ≤ p.cycle
  late position cycle [] last end along p h = absurd h
  late position cycle (visit ∷ visits) last end along p h = grind (
    arith,
    late (stands_after text issued visit) (over_of text issued visit) visits last end along.3 p,
    In-append_cases p (issued_in text visit) (issued_on text visits) h,
    in_visit text visit p,
    longer visit,
  )

  -- no instruction is issued twice
  module _ (in_order : All (λ row. IsStrictlyIncreasing (map (λ p. index_of p.unit) row.insns)) text.rows) where
    once_in : (visit : Visit) → visit.row < length text.rows → (i j : ℕ) (p : Placed)
        → slice_get (issued_in text visit) i ≡ Some p → slice_get (issued_in text visit) j ≡ Some p → i ≡ j
    once_in visit inside i j p at_i at_j =
        rising_once (map (λ (q : Placed). index_of q.unit) (row_of text visit.row).insns)
        (in_order visit.row no_row inside) i j (index_of p.unit) (unit_at i at_i) (unit_at j at_j)
      where
        units_same : (ps : List Placed)
            → map (λ (q : Placed). index_of q.unit) (map (issue_in visit.start) ps) ≡ map
            (λ (q : Placed). index_of q.unit) ps
        units_same [] = refl
        units_same (q ∷ ps) = ap (λ (ns : List ℕ). index_of q.unit ∷ ns) (units_same ps)

        unit_at : (k : ℕ) → slice_get (issued_in text visit) k ≡ Some p
            → slice_get (map (λ (q : Placed). index_of q.unit) (row_of text visit.row).insns) k ≡ Some
            (index_of p.unit)
        unit_at k at =
            ap (λ (ns : List ℕ). slice_get ns k) (sym (units_same (row_of text visit.row).insns))
            ∙ slice_get-map (λ (q : Placed). index_of q.unit) (issued_in text visit) k
            ∙ ap (λ o. option_map (λ (q : Placed). index_of q.unit) o) at

    -- an instruction of a row isn't issued on the visits behind it
    not_behind : (visit : Visit) (visits : List Visit) (last : Position) (end a b : ℕ) (p : Placed)
        → Along (stands_after text issued visit) (over_of text issued visit) visits last end
        → slice_get (issued_in text visit) a ≡ Some p → slice_get (issued_on text visits) b ≡ Some p → ⊥
    not_behind visit visits last end a b p along here there =
        let e : p.cycle ≡ visit.start = in_visit text visit p (at_place (issued_in text visit) a p here) in
        let l : visit.start < over_of text issued visit = longer visit in
        let u : over_of text issued visit ≤ p.cycle
        = late (stands_after text issued visit) (over_of text issued visit) visits last end along p
        (at_place (issued_on text visits) b p there) in omega arith

    pub once : (position : Position) (cycle : ℕ) (visits : List Visit) (last : Position) (end : ℕ)
        → Along position cycle visits last end
        → (i j : ℕ) (p : Placed) → slice_get (issued_on text visits) i ≡ Some p
        → slice_get (issued_on text visits) j ≡ Some p → i ≡ j
    once position cycle [] last end along i j p at_i at_j = absurd (none-some p at_i)
    once position cycle (visit ∷ visits) last end along i j p at_i at_j = grind (
      arith,
      nat_tests,
      once (stands_after text issued visit) (over_of text issued visit) visits last end along.3,
      get_cases,
      once_in,
      not_behind,
    )

  -- no two branches run in a cycle
  module _ (did : Did)
      (branches : (p : Placed) → is_some (did p).target ≡ true → In p issued.placed → is_branching p ≡ true) where
    few_in : (visit : Visit) → count_by is_branching (row_of text visit.row).insns ≤ 1 → (c : ℕ)
        → ((p : Placed) → In p (issued_in text visit) → In p issued.placed)
        → length (filter (has_branched did c) (issued_in text visit)) ≤ 1
    few_in visit most c all =
        let fewer : length (filter (has_branched did c) (issued_in text visit)) ≤ length
        (filter is_branching (issued_in text visit))
        = filter_fewer (has_branched did c) is_branching (issued_in text visit)
        (λ p h t. branches p (and_parts (eqb p.cycle c) (is_some (did p).target) t).1 (all p h)) in
        grind (arith, nat_tests, filter-map, length-map, length-filter)

    not_then : (c : ℕ) (p : Placed) → p.cycle ≢ c → has_branched did c p ≡ false
    not_then c p ne = ap (λ b. b && is_some (did p).target) (ne_eqb p.cycle c ne)

    -- of a row and the visits behind it only one has branches that run in this cycle
    few_more : (visit : Visit) (visits : List Visit) (last : Position) (end : ℕ)
        → count_by is_branching (row_of text visit.row).insns ≤ 1
        → Along (stands_after text issued visit) (over_of text issued visit) visits last end
        → ((p : Placed) → In p (issued_in text visit) → In p issued.placed) → (c : ℕ)
        → length (filter (has_branched did c) (issued_on text visits)) ≤ 1
        → length (filter (has_branched did c) (issued_on text (visit ∷ visits))) ≤ 1
    few_more visit visits last end most along front c rest =
        ⊎_elim {C = length (filter (has_branched did c) (issued_on text (visit ∷ visits))) ≤ 1} now other
        (cases_eq visit.start c)
      where
        parted : filter (has_branched did c) (issued_on text (visit ∷ visits)) ≡ filter (has_branched did c)
            (issued_in text visit) ++ filter (has_branched did c) (issued_on text visits)
        parted = filter-append (has_branched did c) (issued_in text visit) (issued_on text visits)

        now : visit.start ≡ c → length (filter (has_branched did c) (issued_on text (visit ∷ visits))) ≤ 1
        now e =
            let none : filter (has_branched did c) (issued_on text visits) ≡ []
            = filter-none (has_branched did c) (issued_on text visits) (λ p h. not_then c p (λ s.
            let l : visit.start < over_of text issued visit = longer visit in
            let u : over_of text issued visit ≤ p.cycle = late (stands_after text issued visit)
            (over_of text issued visit) visits last end along p h in absurd (omega arith))) in
            let is : filter (has_branched did c) (issued_on text (visit ∷ visits)) ≡ filter (has_branched did c)
            (issued_in text visit)
            = grind (arith, parted, append-nil (filter (has_branched did c) (issued_in text visit))) in
            grind (arith, few_in visit most c front)

        other : visit.start ≢ c → length (filter (has_branched did c) (issued_on text (visit ∷ visits))) ≤ 1
        other ne =
            let none : filter (has_branched did c) (issued_in text visit) ≡ []
            = filter-none (has_branched did c) (issued_in text visit)
            (λ p h. not_then c p (λ s. ne (sym (in_visit text visit p h) ∙ s))) in
            let is : filter (has_branched did c) (issued_on text (visit ∷ visits)) ≡ filter (has_branched did c)
            (issued_on text visits)
            = parted ∙ ap (λ ps. ps ++ filter (has_branched did c) (issued_on text visits)) none in
            grind arith

    pub few : (position : Position) (cycle : ℕ) (visits : List Visit) (last : Position) (end : ℕ)
        → Along position cycle visits last end
        → ((visit : Visit) → In visit visits → count_by is_branching (row_of text visit.row).insns ≤ 1)
        → ((p : Placed) → In p (issued_on text visits) → In p issued.placed) → (c : ℕ)
        → length (filter (has_branched did c) (issued_on text visits)) ≤ 1
    few position cycle [] last end along most all c = omega arith
    few position cycle (visit ∷ visits) last end along most all c =
        few_more visit visits last end (most visit (inl refl)) along.3
        (λ p h. all p (In-append_left p (issued_in text visit) (issued_on text visits) h)) c
        (few (stands_after text issued visit) (over_of text issued visit) visits last end along.3
        (λ v h. most v (inr h))
        (λ p h. all p (In-append_right p (issued_in text visit) (issued_on text visits) h)) c)

  -- where no cycle is broken these visits are the flight's
  pub leads_along : ((c : ℕ) → broken issued c ≡ None)
      → (limit : ℕ) (position : Position) (cycle : ℕ) (visits : List Visit) (last : Position) (end : ℕ)
      → Along position cycle visits last end → end ≤ limit → Leads text limit issued position cycle visits last end
  leads_along quiet limit position cycle [] last end along l = along
  leads_along quiet limit position cycle (visit ∷ visits) last end along l = grind (
    arith,
    nat_tests,
    leads_along quiet limit (stands_after text issued visit) (over_of text issued visit) visits last end along.3 l,
    longer,
    ends_later,
    or_left,
    lt-leb,
  )
