-- Of packets the instructions of a block are taken in one way.
use Rattle.std.proofs.Common.{arith, ◌≡◌, ◌⊎◌, ℕ, zero, suc, ◌<◌, ◌≤◌, ◌+◌, ◌-◌, List, [], ◌∷◌, ◌++◌, length, get_or}
use Rattle.std.proofs.Common.{IsPermutation, refl, sym, ap, subst, ◌∙◌, inl, inr}
use Rattle.std.specs.Prelude.{Contains}
use Rattle.std.proofs.Math.Seq.{get_or-append_right, get_or-append_seam}
use Rattle.std.proofs.lemmas.Bool.{cases_eq, cases_lt}
use Rattle.std.proofs.lemmas.List.{get_or_append_left, length-append}
use Rattle.std.proofs.lemmas.List.Sorted.{IsPermutation-sym, IsPermutation-trans, Contains-permutation}
use Rattle.c62_op.specs.Units.{index_of}
use Rattle.c62_op.proofs.UnitOrder.{index_of-below, same_index}
use Rattle.c62_insn.specs.declared.insn.Insn.{Insn}
use Rattle.c62_insn.specs.Insn.{IsSameInsn}
use Rattle.c62_rules.specs.PacketRules.{KeepsPacketRules}
use Rattle.c62_rules.proofs.Capacities.{one-each-unit}
use Rattle.c62_read.specs.declared.block.SerialInsn.{SerialInsn}
use Rattle.c62_packet.specs.declared.placed.Placed.{Placed}
use Rattle.c62_packet.specs.Packed.{issue_of, issued, listing_position}
use Rattle.c62_check.specs.Matched.{AreSame, AreTaken, HaveNone}
use Rattle.c62_check.specs.Schedule.{AreDistinct}
use Rattle.c62_packet.proofs.Placings.{issued_or}
use Rattle.c62_check.proofs.Distinct.{are_distinct}

at_default : (xs : List Placed) (j : ℕ) (d e : Placed) → j < length xs → get_or xs j d ≡ get_or xs j e
at_default [] j d e lt = absurd (omega (arith, lt))
at_default (x ∷ xs) zero d e lt = refl
at_default (x ∷ xs) (suc j) d e lt = at_default xs j d e (omega (arith, lt))

opposite : (a b : Insn) → IsSameInsn a b → IsSameInsn b a
opposite a b same = record { op = sym same.op; operands = sym same.operands; cond = sym same.cond }

pub many_same : (entries : List SerialInsn) (taken : List Placed) → AreSame entries taken
    → length taken ≡ length entries
many_same [] [] same = refl
many_same [] (t ∷ taken) same = absurd same
many_same (e ∷ entries) [] same = absurd same
many_same (e ∷ entries) (t ∷ taken) same = let rest = many_same entries taken same.1 in omega (arith, rest)

-- the same instruction of a block, in two takings of which one goes on
twin_at : (entries more : List SerialInsn) (taken others : List Placed) → AreSame entries taken
    → AreSame (entries ++ more) others → (i : ℕ) (d : Placed) → i < length taken
    → IsSameInsn (get_or taken i d).insn (get_or others i d).insn
twin_at [] more [] others same also i d lt = absurd (omega (arith, lt))
twin_at [] more (t ∷ taken) others same also i d lt = absurd same
twin_at (e ∷ entries) more [] others same also i d lt = absurd same
twin_at (e ∷ entries) more (t ∷ taken) [] same also i d lt = absurd also
twin_at (e ∷ entries) more (t ∷ taken) (o ∷ others) same also zero d lt =
    record {
      op = sym same.0.op ∙ also.0.op;
      operands = sym same.0.operands ∙ also.0.operands;
      cond = sym same.0.cond
          ∙ also.0.cond;
    }
twin_at (e ∷ entries) more (t ∷ taken) (o ∷ others) same also (suc i) d lt = twin_at entries more taken others same.1
    also.1 i d (omega (arith, lt))

entry_at : (entries : List SerialInsn) (entry : SerialInsn) (more : List SerialInsn) (taken : List Placed) (d : Placed)
    → AreSame (entries ++ entry ∷ more) taken
    → IsSameInsn entry.insn (get_or taken (length entries) d).insn
entry_at [] entry more [] d same = absurd same
entry_at [] entry more (t ∷ taken) d same = same.0
entry_at (e ∷ entries) entry more [] d same = absurd same
entry_at (e ∷ entries) entry more (t ∷ taken) d same = entry_at entries entry more taken d same.1

module _ (listed : List Placed) (rules : KeepsPacketRules (issued listed)) where
  distinct : AreDistinct listed
  distinct = are_distinct listed rules

  -- where one of them stands in the listing no other does
  pub same_place : (p q : Placed) → Contains listed p → Contains listed q → listing_position p ≡ listing_position q
      → p ≡ q
  same_place p q one other same =
      let cycles : q.cycle ≡ p.cycle = omega (arith, same, index_of-below p.unit, index_of-below q.unit) in
      let indexes : index_of q.unit ≡ index_of p.unit = omega
      (arith, same, index_of-below p.unit, index_of-below q.unit) in
      let unit = same_index q.unit p.unit indexes in
      let at_p = issued_or listed one.0 p one.1 in
      let at_q = issued_or listed other.0 q other.1 in
      let number : one.0 ≡ other.0 =
      one-each-unit (issued listed) rules p.unit one.0 other.0 (issue_of (get_or listed one.0 p))
      (issue_of (get_or listed other.0 q)) at_p at_q
      (ap (λ (x : Placed). x.cycle) one.2 ∙ sym cycles
      ∙ sym (ap (λ (x : Placed). x.cycle) other.2)) (ap (λ (x : Placed). x.unit) one.2)
      (ap (λ (x : Placed). x.unit) other.2 ∙ unit) in
      sym one.2 ∙ (ap (λ (k : ℕ). get_or listed k p) number ∙ (at_default listed other.0 p q other.1 ∙ other.2))

  module _ (entries others : List SerialInsn) (ta la tb lb : List Placed) (one : AreTaken entries listed ta la)
      (other : AreTaken others listed tb lb) where
    both_all : IsPermutation (tb ++ lb) (ta ++ la)
    both_all = IsPermutation-trans (tb ++ lb) listed (ta ++ la) (IsPermutation-sym listed (tb ++ lb) other.all) one.all

    -- what is taken by the second is there in the first
    found : (i : ℕ) (d : Placed) → i < length tb → Contains (ta ++ la) (get_or tb i d)
    found i d lt =
        let q = get_or tb i d in
        let long = length-append tb lb in
        Contains-permutation (tb ++ lb) (ta ++ la) q both_all
        (i, omega (arith, lt, long), get_or_append_left tb lb q i lt ∙ at_default tb i q d lt)

    -- the first doesn't take a later one than the second
    not_later : (i : ℕ) (d : Placed) → i < length ta → i < length tb
        → IsSameInsn (get_or ta i d).insn (get_or tb i d).insn
        → ((j : ℕ) → j < i → get_or ta j d ≡ get_or tb j d)
        → (get_or ta i d ≡ get_or tb i d) ⊎ (listing_position (get_or ta i d) ≤ listing_position (get_or tb i d))
    not_later i d inside within twin before = by_place (found i d within)
      where
        by_place : Contains (ta ++ la) (get_or tb i d)
            → (get_or ta i d ≡ get_or tb i d) ⊎ (listing_position (get_or ta i d) ≤ listing_position (get_or tb i d))
        by_place at =
            let t = get_or ta i d in
            let q = get_or tb i d in
            let m : ℕ = at.0 in
            let long = length-append ta la in
            let wide = length-append tb lb in
            elim (cases_lt m (length ta)) [
              | inl there ↦
                  let here : get_or ta m d ≡ q = at_default ta m d q there
                  ∙ (sym (get_or_append_left ta la q m there) ∙ at.2) in
                  elim (cases_lt m i) [
                    | inl lt ↦
                        let twice : get_or (tb ++ lb) m d ≡ get_or (tb ++ lb) i d =
                        get_or_append_left tb lb d m (omega (arith, lt, within))
                        ∙ (sym (before m lt) ∙ (here ∙ sym (get_or_append_left tb lb d i within))) in
                        let same = distinct (tb ++ lb) other.all m i d (omega (arith, lt, within, wide))
                        (omega (arith, within, wide)) twice in
                        absurd (omega (arith, same, lt))
                    | inr ge ↦ elim (cases_eq m i) [
                      | inl e ↦ inl (ap (λ (k : ℕ). get_or ta k d) (sym e) ∙ here)
                      | inr apart ↦
                          inr (subst (λ (p : Placed). listing_position t ≤ listing_position p) here
                          (one.in_order i m d (omega (arith, ge, apart)) there
                          (subst (λ (p : Placed). IsSameInsn t.insn p.insn) (sym here) twin)))
                    ]
                  ]
              | inr past ↦
                  let here : get_or la (m - length ta) d ≡ q =
                  at_default la (m - length ta) d q (omega (arith, past, at.1, long))
                  ∙ (sym (get_or-append_right ta la m q past) ∙ at.2) in
                  inr (subst (λ (p : Placed). listing_position t ≤ listing_position p) here
                  (one.before_left i (m - length ta) d inside (omega (arith, past, at.1, long))
                  (subst (λ (p : Placed). IsSameInsn t.insn p.insn) (sym here) twin)))
            ]

  listed_one : (entries : List SerialInsn) (taken left : List Placed) (i : ℕ) (d : Placed)
      → AreTaken entries listed taken left → i < length taken
      → Contains listed (get_or taken i d)
  listed_one entries taken left i d are lt =
      let p = get_or taken i d in
      let long = length-append taken left in
      Contains-permutation (taken ++ left) listed p (IsPermutation-sym listed (taken ++ left) are.all)
      (i, omega (arith, lt, long), get_or_append_left taken left p i lt ∙ at_default taken i p d lt)

  module _ (entries more : List SerialInsn) (ta la tb lb : List Placed) (one : AreTaken entries listed ta la)
      (other : AreTaken (entries ++ more) listed tb lb) where
    shorter : length ta ≤ length tb
    shorter = omega (
      arith,
      many_same entries ta one.same,
      many_same (entries ++ more) tb other.same,
      length-append
          entries more,
    )

    here_alike : (i : ℕ) (d : Placed) → i < length ta → ((j : ℕ) → j < i → get_or ta j d ≡ get_or tb j d)
        → get_or ta i d ≡ get_or tb i d
    here_alike i d inside before =
        let within : i < length tb = omega (arith, inside, shorter) in
        let twin = twin_at entries more ta tb one.same other.same i d inside in
        elim (not_later entries (entries ++ more) ta la tb lb one other i d inside within twin before) [
          | inl same ↦ same
          | inr low ↦
              elim (not_later (entries ++ more) entries tb lb ta la other one i d within inside
              (opposite (get_or ta i d).insn (get_or tb i d).insn twin) (λ j lt. sym (before j lt))) [
                | inl same ↦ sym same
                | inr high ↦
                    same_place (get_or ta i d) (get_or tb i d) (listed_one entries ta la i d one inside)
                    (listed_one (entries ++ more) tb lb i d other within)
                    (omega (arith, low, high))
              ]
        ]

    up_to : (bound i : ℕ) (d : Placed) → i < bound → i < length ta → get_or ta i d ≡ get_or tb i d
    up_to zero i d lt inside = absurd (omega (arith, lt))
    up_to (suc bound) i d lt inside = here_alike i d inside
        (λ j less. up_to bound j d (omega (arith, less, lt)) (omega (arith, less, inside)))

    -- the first of a block's instructions are taken alike, whatever follows
    pub front_alike : (i : ℕ) (d : Placed) → i < length ta → get_or ta i d ≡ get_or tb i d
    front_alike i d inside = up_to (suc i) i d (omega arith) inside

    -- what stands behind the first that were taken is no instruction behind those of the other
    pub not_taken : (i m : ℕ) (d : Placed) → i < length tb → length ta ≤ i → m < length ta
        → get_or ta m d ≡ get_or tb i d → ⊥
    not_taken i m d within behind there e =
        let wide = length-append tb lb in
        let twice : get_or (tb ++ lb) m d ≡ get_or (tb ++ lb) i d =
        get_or_append_left tb lb d m (omega (arith, there, behind, within))
        ∙ (sym (front_alike m d there) ∙ (e ∙ sym (get_or_append_left tb lb d i within))) in
        let same = distinct (tb ++ lb) other.all m i d (omega (arith, there, behind, within, wide))
        (omega (arith, within, wide)) twice in
        omega (arith, same, there, behind)

  -- an instruction that is missing isn't taken
  never_beside : (earlier : List SerialInsn) (entry : SerialInsn) (more : List SerialInsn) (ta la tb lb : List Placed)
      (d : Placed) → AreTaken earlier listed ta la
      → HaveNone entry.insn la → AreTaken (earlier ++ entry ∷ more) listed tb lb → ⊥
  never_beside earlier entry more ta la tb lb d one none other =
      let n : ℕ = length earlier in
      let count = many_same earlier ta one.same in
      let all = many_same (earlier ++ entry ∷ more) tb other.same in
      let long = length-append earlier (entry ∷ more) in
      let sum = length-append ta la in
      let within : n < length tb = omega (arith, all, long) in
      let x = get_or tb n d in
      let is = entry_at earlier entry more tb d other.same in
      let at = found earlier (earlier ++ entry ∷ more) ta la tb lb one other n d within in
      let m : ℕ = at.0 in
      elim (cases_lt m (length ta)) [
        | inl there ↦
            let here : get_or ta m d ≡ x = at_default ta m d x there
            ∙ (sym (get_or_append_left ta la x m there) ∙ at.2) in
            not_taken earlier (entry ∷ more) ta la tb lb one other n m d within (omega (arith, count)) there here
        | inr past ↦
            let inside : m - length ta < length la = omega (arith, past, at.1, sum) in
            let here : get_or la (m - length ta) d ≡ x =
            at_default la (m - length ta) d x inside ∙ (sym (get_or-append_right ta la m x past) ∙ at.2) in
            none (m - length ta) d inside (subst (λ (p : Placed). IsSameInsn entry.insn p.insn) (sym here) is)
      ]

  pub never_taken : (earlier : List SerialInsn) (entry : SerialInsn) (more : List SerialInsn)
      (ta la tb lb : List Placed) → AreTaken earlier listed ta la
      → HaveNone entry.insn la → AreTaken (earlier ++ entry ∷ more) listed tb lb → ⊥
  never_taken earlier entry more ta la [] lb one none other =
      let all = many_same (earlier ++ entry ∷ more) [] other.same in
      let long = length-append earlier (entry ∷ more) in
      omega (arith, all, long)
  never_taken earlier entry more ta la (t ∷ tb) lb one none other = never_beside earlier entry more ta la (t ∷ tb) lb t
      one none other
