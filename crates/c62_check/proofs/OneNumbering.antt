-- There is at most one lawful numbering.
use Rattle.std.proofs.Common.{arith, ◌≡◌, ℕ, zero, suc, ◌<◌, ◌≤◌, ◌+◌, ◌-◌, pos, Bool, true, false, List, [], ◌∷◌, ◌++◌}
use Rattle.std.proofs.Common.{length, take, get_or, IsPermutation, Some, refl, sym, ap, subst, ◌∙◌, inl, inr, ◌⊎◌}
use Rattle.std.specs.List.{slice_get, Contains}
use Rattle.std.specs.Prelude.{IsTrue}
use Rattle.std.proofs.Math.Seq.{get_or-append_right}
use Rattle.std.proofs.lemmas.Int.{ints}
use Rattle.std.proofs.lemmas.Bool.{cases_lt}
use Rattle.std.proofs.lemmas.Option.{slice_get-get_or}
use Rattle.std.proofs.lemmas.List.{get_or_append_left, length-append, length-map, get_or_default}
use Rattle.std.proofs.lemmas.List.Sorted.{IsPermutation-sym, IsPermutation-trans, Contains-permutation}
use Rattle.c62_op.proofs.UnitOrder.{index_of-below}
use Rattle.c62_op.specs.Shape.{is_branch}
use Rattle.c62_insn.specs.declared.insn.Insn.{Insn}
use Rattle.c62_insn.specs.Insn.{IsSameInsn, op_of}
use Rattle.c62_read.specs.declared.block.SerialInsn.{SerialInsn}
use Rattle.c62_packet.specs.declared.placed.Placed.{Placed}
use Rattle.c62_packet.specs.Packed.{listing_position}
use Rattle.c62_depend.specs.Plan.{unnumbered, IsPlan}
use Rattle.c62_check.specs.Matched.{AreSame, AreTaken}
use Rattle.c62_read.specs.Block.{is_block}
use Rattle.c62_depend.proofs.Plans.{plan_is, few_insns, last_branch}
use Rattle.c62_check.specs.Schedule.{IsNumbering, AreDistinct, HasOneNumbering}
use Rattle.c62_check.proofs.Lined.{same_length}
use Rattle.c62_rules.proofs.Twins.{are_in_order}

opposite : (a b : Insn) → IsSameInsn a b → IsSameInsn b a
opposite a b same = record { op = sym same.op; operands = sym same.operands; cond = sym same.cond }

-- the same instruction there in the block
pub record StandsIn (insns : List SerialInsn) (i : ℕ) (p : Placed) : Type 0 where
  pub insn : Insn
  pub at : slice_get (unnumbered insns) i ≡ Some insn
  pub same : IsSameInsn insn p.insn

pub stands_in : (insns : List SerialInsn) (placed : List Placed) → AreSame insns placed → (i : ℕ) (d : Placed)
    → i < length placed → StandsIn insns i (get_or placed i d)
stands_in [] [] same i d lt = absurd (omega (arith, lt))
stands_in [] (p ∷ placed) same i d lt = absurd same
stands_in (e ∷ insns) [] same i d lt = absurd same
stands_in (e ∷ insns) (p ∷ placed) same zero d lt = record { insn = e.insn; at = refl; same = same.0 }
stands_in (e ∷ insns) (p ∷ placed) same (suc i) d lt =
    let later = stands_in insns placed same.1 i d (omega (arith, lt)) in
    record { insn = later.insn; at = later.at; same = later.same }

twins : (insns : List SerialInsn) (n : ℕ) (taken numbered : List Placed) → AreSame (take n insns) taken
    → AreSame insns numbered → (i : ℕ) (d : Placed) → i < length taken
    → IsSameInsn (get_or taken i d).insn (get_or numbered i d).insn
twins insns n [] numbered same all i d lt = absurd (omega (arith, lt))
twins [] zero (t ∷ taken) numbered same all i d lt = absurd same
twins [] (suc n) (t ∷ taken) numbered same all i d lt = absurd same
twins (e ∷ insns) zero (t ∷ taken) numbered same all i d lt = absurd same
twins (e ∷ insns) (suc n) (t ∷ taken) [] same all i d lt = absurd all
twins (e ∷ insns) (suc n) (t ∷ taken) (q ∷ numbered) same all zero d lt =
    record {
      op = sym same.0.op ∙ all.0.op;
      operands = sym same.0.operands ∙ all.0.operands;
      cond = sym same.0.cond
          ∙ all.0.cond;
    }
twins (e ∷ insns) (suc n) (t ∷ taken) (q ∷ numbered) same all (suc i) d lt = twins insns n taken numbered same.1 all.1 i
    d (omega (arith, lt))

not_longer : (insns : List SerialInsn) (n : ℕ) (taken : List Placed) → AreSame (take n insns) taken
    → length taken ≤ length insns
not_longer insns n [] same = omega arith
not_longer [] zero (t ∷ taken) same = absurd same
not_longer [] (suc n) (t ∷ taken) same = absurd same
not_longer (e ∷ insns) zero (t ∷ taken) same = absurd same
not_longer (e ∷ insns) (suc n) (t ∷ taken) same = (let rest = not_longer insns n taken same.1 in omega (arith, rest))

module _ (insns : List SerialInsn) (listed numbered : List Placed) (plan : IsPlan (unnumbered insns))
    (distinct : AreDistinct listed) (is : IsNumbering insns listed numbered) where
  long : length numbered ≡ length insns
  long = same_length insns numbered is.same

  straight : (j : ℕ) (p : Insn) → slice_get (unnumbered insns) j ≡ Some p → j + 1 < length insns → (b : Bool)
      → is_branch (op_of p) ≡ b → b ≡ false
  straight j p at lt false e = refl
  straight j p at lt true e =
      let last = plan.branch j p at e in
      let many = length-map insns (λ (entry : SerialInsn). entry.insn) in
      absurd (omega (arith, last, lt, many))

  -- of the same instructions the later one of the block is listed later
  pub later : (j k : ℕ) (d : Placed) → j < k → k < length numbered
      → IsSameInsn (get_or numbered j d).insn (get_or numbered k d).insn
      → listing_position (get_or numbered j d) < listing_position (get_or numbered k d)
  later j k d lt inside same =
      let one = stands_in insns numbered is.same j d (omega (arith, lt, inside)) in
      let other = stands_in insns numbered is.same k d inside in
      let both : IsSameInsn one.insn other.insn = record {
        op = one.same.op ∙ (same.op ∙ sym other.same.op);
        operands = one.same.operands ∙ (same.operands ∙ sym other.same.operands);
        cond = one.same.cond ∙ (same.cond ∙ sym other.same.cond);
      } in
      let bounds = are_in_order (unnumbered insns) j k one.insn other.insn one.at other.at lt both
      (straight j one.insn one.at (omega (arith, lt, inside, long)) (is_branch (op_of one.insn)) refl) in
      let apart = is.keeps j k (get_or numbered j d) (get_or numbered k d) (pos 1)
      (slice_get-get_or numbered j d (omega (arith, lt, inside))) (slice_get-get_or numbered k d inside) bounds in
      let few = index_of-below (get_or numbered j d).unit in
      omega (arith, ints, apart, few)

  module _ (count : ℕ) (taken left : List Placed) (are : AreTaken (take count insns) listed taken left) where
    within : length taken ≤ length numbered
    within = (let few = not_longer insns count taken are.same in omega (arith, few, long))

    both_all : IsPermutation (taken ++ left) numbered
    both_all = IsPermutation-trans (taken ++ left) listed numbered (IsPermutation-sym listed (taken ++ left) are.all)
        is.all

    pub wide : length (taken ++ left) ≡ length taken + length left
    wide = length-append taken left

    module _ (i : ℕ) (d : Placed) (inside : i < length taken) (before : (j : ℕ) → j < i
        → get_or taken j d ≡ get_or numbered j d) where
      abbrev t : Placed
      t = get_or taken i d

      abbrev q : Placed
      q = get_or numbered i d

      twin : IsSameInsn t.insn q.insn
      twin = twins insns count taken numbered are.same is.same i d inside

      -- it isn't one that stands earlier in the block
      not_earlier : (j : ℕ) → j < i → get_or numbered j d ≡ t → ⊥
      not_earlier j lt e =
          let equal : get_or (taken ++ left) j d ≡ get_or (taken ++ left) i d =
          get_or_append_left taken left d j (omega (arith, lt, inside))
          ∙ (before j lt ∙ (e ∙ sym (get_or_append_left taken left d i inside))) in
          let same = distinct (taken ++ left) are.all j i d (omega (arith, lt, inside, wide))
          (omega (arith, inside, wide)) equal in
          omega (arith, same, lt)

      -- what the numbering has here doesn't stand earlier in the listing
      not_before : (m : ℕ) → m < length (taken ++ left) → get_or (taken ++ left) m d ≡ q → (t ≡ q)
          ⊎ (listing_position t ≤ listing_position q)
      not_before m inside_m e = elim (cases_lt m (length taken)) [
        | inl there ↦
            (let here : get_or taken m d ≡ q = sym (get_or_append_left taken left d m there) ∙ e in
            elim (cases_lt m i) [
              | inl lt ↦
                  (let same = distinct numbered is.all m i d (omega (arith, lt, inside, within))
                  (omega (arith, inside, within)) (sym (before m lt) ∙ here) in
                  absurd (omega (arith, same, lt)))
              | inr ge ↦ elim (cases_lt i m) [
                | inl gt ↦
                    inr (subst (λ (p : Placed). listing_position t ≤ listing_position p) here
                    (are.in_order i m d gt there (subst (λ (p : Placed). IsSameInsn t.insn p.insn) (sym here) twin)))
                | inr le ↦ inl (subst (λ (n : ℕ). get_or taken n d ≡ q) (the_same m ge le) here)
              ]
            ])
        | inr past ↦
            (let here : get_or left (m - length taken) d ≡ q = sym (get_or-append_right taken left m d past) ∙ e in
            inr (subst (λ (p : Placed). listing_position t ≤ listing_position p) here
            (are.before_left i (m - length taken) d inside (omega (arith, inside_m, past, wide))
            (subst (λ (p : Placed). IsSameInsn t.insn p.insn) (sym here) twin))))
      ]
        where
          the_same : (m : ℕ) → i ≤ m → m ≤ i → m ≡ i
          the_same m ge le = omega (arith, ge, le)

      found_in : Contains numbered t
      found_in = Contains-permutation (taken ++ left) numbered t both_all
          (i, omega (arith, inside, wide), get_or_append_left taken left t i inside ∙ get_or_default taken i t d inside)

      found_out : Contains (taken ++ left) q
      found_out =
          let lt : i < length numbered = omega (arith, inside, within) in
          Contains-permutation numbered (taken ++ left) q (IsPermutation-sym (taken ++ left) numbered both_all)
          (i, lt, get_or_default numbered i q d lt)

      by_place : (j : ℕ) → j < length numbered → get_or numbered j d ≡ t → t ≡ q
      by_place j lt e = elim (cases_lt j i) [
        | inl earlier ↦ absurd (not_earlier j earlier e)
        | inr ge ↦ elim (cases_lt i j) [
          | inl gt ↦
              (let rises : listing_position q < listing_position t = subst
              (λ (p : Placed). listing_position q < listing_position p) e
              (later i j d gt lt (subst (λ (p : Placed). IsSameInsn q.insn p.insn) (sym e)
              (opposite t.insn q.insn twin))) in
              elim (not_before found_out.0 found_out.1 (get_or_default (taken ++ left) found_out.0 d q found_out.1
              ∙ found_out.2)) [
                | inl same ↦ same
                | inr falls ↦ absurd (omega (arith, rises, falls))
              ])
          | inr le ↦ sym e ∙ ap (λ (n : ℕ). get_or numbered n d) (equal_places j ge le)
        ]
      ]
        where
          equal_places : (j : ℕ) → i ≤ j → j ≤ i → j ≡ i
          equal_places j ge le = omega (arith, ge, le)

      here_same : t ≡ q
      here_same = by_place found_in.0 found_in.1 (get_or_default numbered found_in.0 d t found_in.1 ∙ found_in.2)

    up_to : (bound i : ℕ) (d : Placed) → i < bound → i < length taken → get_or taken i d ≡ get_or numbered i d
    up_to zero i d lt inside = absurd (omega (arith, lt))
    up_to (suc bound) i d lt inside = here_same i d inside
        (λ j less. up_to bound j d (omega (arith, less, lt)) (omega (arith, less, inside)))

pub one_numbering : (insns : List SerialInsn) (listed numbered : List Placed) → HasOneNumbering insns listed numbered
one_numbering insns listed numbered plan distinct is count taken left are i d inside = up_to insns listed numbered plan
    distinct is count taken left are (suc i) i d (omega arith) inside

pub is_plan : (insns : List SerialInsn) → IsTrue (is_block insns) → IsPlan (unnumbered insns)
is_plan insns sound = plan_is (unnumbered insns) (few_insns insns sound) (last_branch insns sound)
