-- One answer to what is missing, and to what comes too early.
use Rattle.std.proofs.Common.{arith, ◌≡◌, ◌⊎◌, ℕ, zero, suc, ◌<◌, ◌≤◌, ◌+◌, ◌-◌, List, [], ◌∷◌, ◌++◌, length, get_or}
use Rattle.std.proofs.Common.{refl, sym, ap, subst, ◌∙◌, inl, inr, append-nil}
use Rattle.std.specs.Prelude.{All, Contains, slice_get}
use Rattle.std.proofs.lemmas.Bool.{cases_lt}
use Rattle.std.proofs.lemmas.Int.{ints}
use Rattle.std.proofs.lemmas.List.{get_or_append_left, length-append}
use Rattle.std.proofs.lemmas.Option.{same_Some}
use Rattle.std.proofs.Math.Seq.{get_or-append_right, get_or-append_seam}
use Rattle.std.proofs.lemmas.List.Sorted.{length_permutation, Contains-permutation, IsPermutation-sym}
use Rattle.c62_insn.specs.declared.insn.Insn.{Insn}
use Rattle.c62_rules.specs.PacketRules.{KeepsPacketRules}
use Rattle.c62_read.specs.declared.block.SerialInsn.{SerialInsn}
use Rattle.c62_packet.specs.declared.placed.Placed.{Placed}
use Rattle.c62_packet.specs.Packed.{issued, listing_position}
use Rattle.c62_reason.proofs.Reasons.{one_reason}
use Rattle.c62_check.specs.declared.early.Early.{Early}
use Rattle.c62_check.specs.Matched.{AreNumbered, AreTaken, IsMissing, IsExtra}
use Rattle.c62_check.specs.Early.{AreEarly, IsEarly, IsEarlyBehind, Keeps, KeepsAll, numbers_of}
use Rattle.c62_check.proofs.Distinct.{are_distinct}
use Rattle.c62_check.proofs.OneTaking.{front_alike, many_same, never_taken, same_place}

-- ---- what is missing

-- where a list is parted twice, it is at one place, or one part goes on beyond the other's
data Parts (e1 e2 : List SerialInsn) (x1 x2 : SerialInsn) : Type 0 where
  Here : x1 ≡ x2 → Parts e1 e2 x1 x2
  Later : (more : List SerialInsn) → e2 ≡ e1 ++ x1 ∷ more → Parts e1 e2 x1 x2
  Earlier : (more : List SerialInsn) → e1 ≡ e2 ++ x2 ∷ more → Parts e1 e2 x1 x2

parts : (e1 l1 e2 l2 : List SerialInsn) (x1 x2 : SerialInsn) → e1 ++ x1 ∷ l1 ≡ e2 ++ x2 ∷ l2 → Parts e1 e2 x1 x2
parts [] l1 [] l2 x1 x2 e = Here cc
parts [] l1 (y ∷ e2) l2 x1 x2 e = let same : y ≡ x1 = cc in Later e2 (ap (λ (z : SerialInsn). z ∷ e2) same)
parts (y ∷ e1) l1 [] l2 x1 x2 e = let same : y ≡ x2 = cc in Earlier e1 (ap (λ (z : SerialInsn). z ∷ e1) same)
parts (y ∷ e1) l1 (z ∷ e2) l2 x1 x2 e =
    let head : y ≡ z = cc in
    let tail : e1 ++ x1 ∷ l1 ≡ e2 ++ x2 ∷ l2 = cc in
    go (parts e1 l1 e2 l2 x1 x2 tail)
  where
    go : Parts e1 e2 x1 x2 → Parts (y ∷ e1) (z ∷ e2) x1 x2
    go (Here same) = Here same
    go (Later more is) = let head : y ≡ z = cc in Later more (rw (is, head) refl)
    go (Earlier more is) = let head : y ≡ z = cc in Earlier more (rw (is, head) refl)

module _ (listed : List Placed) (rules : KeepsPacketRules (issued listed)) where
  pub one_missing : (entries : List SerialInsn) (line other : ℕ) → IsMissing entries listed line
      → IsMissing entries listed other → line ≡ other
  one_missing entries line other a b =
      by_parts (parts a.earlier a.later b.earlier b.later a.entry b.entry (sym a.split ∙ b.split))
    where
      by_parts : Parts a.earlier b.earlier a.entry b.entry → line ≡ other
      by_parts (Here same) = sym a.is_line ∙ ap (λ (entry : SerialInsn). entry.line) same ∙ b.is_line
      by_parts (Later more is) =
          absurd (never_taken listed rules a.earlier a.entry more a.taken a.left b.taken b.left a.are_taken a.none
          (subst (λ (es : List SerialInsn). AreTaken es listed b.taken b.left) is b.are_taken))
      by_parts (Earlier more is) =
          absurd (never_taken listed rules b.earlier b.entry more b.taken b.left a.taken a.left b.are_taken b.none
          (subst (λ (es : List SerialInsn). AreTaken es listed a.taken a.left) is a.are_taken))

  -- where all are taken none is missing
  pub none_missing : (entries : List SerialInsn) (line : ℕ) (taken left : List Placed) → IsMissing entries listed line
      → AreTaken entries listed taken left → ⊥
  none_missing entries line taken left missing all =
      never_taken listed rules missing.earlier missing.entry missing.later missing.taken missing.left taken left
      missing.are_taken missing.none
      (subst (λ (es : List SerialInsn). AreTaken es listed taken left) missing.split all)

  -- ---- what is left over

  -- the first that one taking leaves over doesn't stand before the first of another
  left_over : (entries : List SerialInsn) (t1 l1 t2 l2 : List Placed) (f1 f2 : Placed)
      → AreTaken entries listed t1 (f1 ∷ l1) → AreTaken entries listed t2 (f2 ∷ l2)
      → All (λ p. listing_position f2 ≤ listing_position p) l2 → (f2 ≡ f1) ⊎ (listing_position f2 ≤ listing_position f1)
  left_over entries t1 l1 t2 l2 f1 f2 one other first = by_place there
    where
      long : length (t1 ++ f1 ∷ l1) ≡ length t1 + length (f1 ∷ l1)
      long = length-append t1 (f1 ∷ l1)

      seam : (e : Placed) → get_or (t1 ++ f1 ∷ l1) (length t1) e ≡ f1
      seam e = get_or-append_seam t1 f1 l1 e

      there : Contains (t2 ++ f2 ∷ l2) f1
      there =
          Contains-permutation listed (t2 ++ f2 ∷ l2) f1 other.all
          (Contains-permutation (t1 ++ f1 ∷ l1) listed f1 (IsPermutation-sym listed (t1 ++ f1 ∷ l1) one.all)
          (length t1, omega (arith, long), seam f1))

      behind : (k : ℕ) → k < length (f2 ∷ l2) → get_or (f2 ∷ l2) k f1 ≡ f1 → (f2 ≡ f1)
          ⊎ (listing_position f2 ≤ listing_position f1)
      behind zero lt e = inl e
      behind (suc k) lt e = inr
          (subst (λ (p : Placed). listing_position f2 ≤ listing_position p) e (first k f1 (omega (arith, lt))))

      by_place : Contains (t2 ++ f2 ∷ l2) f1 → (f2 ≡ f1) ⊎ (listing_position f2 ≤ listing_position f1)
      by_place at =
          let m : ℕ = at.0 in
          let wide = length-append t2 (f2 ∷ l2) in
          let count = many_same entries t1 one.same in
          let also = many_same entries t2 other.same in
          elim (cases_lt m (length t2)) [
            | inl taken ↦
                let more : AreTaken (entries ++ []) listed t2 (f2 ∷ l2) =
                subst (λ (es : List SerialInsn). AreTaken es listed t2 (f2 ∷ l2)) (sym (append-nil entries)) other in
                let inside : m < length t1 = omega (arith, taken, count, also) in
                let alike : get_or t1 m f1 ≡ get_or t2 m f1 = front_alike listed rules entries [] t1 (f1 ∷ l1) t2
                (f2 ∷ l2) one more m f1 inside in
                let twice : get_or (t1 ++ f1 ∷ l1) m f1 ≡ get_or (t1 ++ f1 ∷ l1) (length t1) f1 =
                get_or_append_left t1 (f1 ∷ l1) f1 m inside
                ∙ (alike ∙ (sym (get_or_append_left t2 (f2 ∷ l2) f1 m taken) ∙ (at.2 ∙ sym (seam f1)))) in
                let same = are_distinct listed rules (t1 ++ f1 ∷ l1) one.all m (length t1) f1
                (omega (arith, inside, long)) (omega (arith, long)) twice in
                absurd (omega (arith, same, inside))
            | inr past ↦
                behind (m - length t2) (omega (arith, past, at.1, wide))
                (sym (get_or-append_right t2 (f2 ∷ l2) m f1 past) ∙ at.2)
          ]

  left_listed : (entries : List SerialInsn) (taken left : List Placed) (first : Placed)
      → AreTaken entries listed taken (first ∷ left) → Contains listed first
  left_listed entries taken left first are =
      let long = length-append taken (first ∷ left) in
      Contains-permutation (taken ++ first ∷ left) listed first
      (IsPermutation-sym listed (taken ++ first ∷ left) are.all)
      (length taken, omega (arith, long), get_or-append_seam taken first left first)

  pub one_extra : (entries : List SerialInsn) (line other : ℕ) → IsExtra entries listed line
      → IsExtra entries listed other
      → line ≡ other
  one_extra entries line other a b = sym a.is_line ∙ ap (λ (p : Placed). p.line) same ∙ b.is_line
    where
      same : a.first ≡ b.first
      same = elim
          (left_over entries a.taken a.later b.taken b.later a.first b.first a.are_taken b.are_taken b.is_first) [
            | inl e ↦ sym e
            | inr low ↦ elim (left_over entries b.taken b.later a.taken a.later b.first a.first b.are_taken a.are_taken
                a.is_first) [
                  | inl e ↦ e
                  | inr high ↦
                      same_place listed rules a.first b.first (left_listed entries a.taken a.later a.first a.are_taken)
                      (left_listed entries b.taken b.later b.first b.are_taken)
                      (omega (arith, low, high))
                ]
          ]

  -- where all are taken and none is left over none is extra
  pub none_extra : (entries : List SerialInsn) (line : ℕ) (numbered : List Placed) → IsExtra entries listed line
      → AreNumbered entries listed numbered → ⊥
  none_extra entries line numbered extra are =
      let some = many_same entries extra.taken extra.are_taken.same in
      let all = many_same entries numbered are.same in
      let one = length_permutation listed (extra.taken ++ extra.first ∷ extra.later) extra.are_taken.all in
      let other = length_permutation listed (numbered ++ []) are.all in
      let sum = length-append extra.taken (extra.first ∷ extra.later) in
      let sums = length-append numbered [] in
      absurd (omega (arith, some, all, one, other, sum, sums))

  -- ---- what comes too early

  equal_lists : (xs ys : List Placed) → length xs ≡ length ys
      → ((i : ℕ) (e : Placed) → i < length xs → get_or xs i e ≡ get_or ys i e) → xs ≡ ys
  equal_lists [] [] long same = refl
  equal_lists [] (y ∷ ys) long same = absurd (omega (arith, long))
  equal_lists (x ∷ xs) [] long same = absurd (omega (arith, long))
  equal_lists (x ∷ xs) (y ∷ ys) long same =
      let head : x ≡ y = same 0 x (omega arith) in
      let tail : xs ≡ ys = equal_lists xs ys (omega (arith, long)) (λ i e lt. same (suc i) e (omega (arith, lt))) in
      cc

  pub one_numbering : (entries : List SerialInsn) (numbered others : List Placed) → AreNumbered entries listed numbered
      → AreNumbered entries listed others → numbered ≡ others
  one_numbering entries numbered others one other =
      let more : AreTaken (entries ++ []) listed others [] = subst
      (λ (es : List SerialInsn). AreTaken es listed others []) (sym (append-nil entries)) other in
      equal_lists numbered others (many_same entries numbered one.same ∙ sym (many_same entries others other.same))
      (λ i e lt. front_alike listed rules entries [] numbered [] others [] one more i e lt)

module _ (block : List Insn) (placed : List Placed) where
  -- what comes too early doesn't keep its distance
  too_early : (i : ℕ) (early : Early) → IsEarlyBehind block placed i early → Keeps block placed i early.number → ⊥
  too_early i early behind keeps =
      let kept = keeps behind.one behind.other early.needs behind.is_one behind.is_other behind.needs in
      let has = behind.has in
      let late = behind.too_early in
      absurd (omega (arith, ints, kept, has, late))

  same_early : (one other : Early) → one.number ≡ other.number → one.line ≡ other.line → one.after ≡ other.after
      → one.needs ≡ other.needs → one.has ≡ other.has
      → one.reason ≡ other.reason → one ≡ other
  same_early one other number line after needs has reason = grind arith

  first_early : (one other : Early) → one.number ≡ other.number
      → (a : IsEarly block placed one) (b : IsEarly block placed other) → a.first ≡ b.first
  first_early one other number a b = elim (cases_lt a.first b.first) [
    | inl lt ↦ absurd (too_early a.first one a.behind
        (subst (Keeps block placed a.first) (sym number) (b.before a.first lt)))
    | inr ge ↦ elim (cases_lt b.first a.first) [
      | inl lt ↦ absurd (too_early b.first other b.behind
          (subst (Keeps block placed b.first) number (a.before b.first lt)))
      | inr le ↦ omega (arith, ge, le)
    ]
  ]

  one_early : (one other : Early) → one.number ≡ other.number → IsEarly block placed one → IsEarly block placed other
      → one ≡ other
  one_early one other number a b =
      let first = first_early one other number a b in
      let p : a.behind.one ≡ b.behind.one =
      same_Some a.behind.one b.behind.one (sym a.behind.is_one ∙ (ap (slice_get placed) first ∙ b.behind.is_one)) in
      let q : a.behind.other ≡ b.behind.other =
      same_Some a.behind.other b.behind.other (sym a.behind.is_other
      ∙ (ap (slice_get placed) number ∙ b.behind.is_other)) in
      let needs : one.needs ≡ other.needs =
      same_Some one.needs other.needs (sym a.behind.needs ∙ rw (first, number) b.behind.needs) in
      let has : one.has ≡ other.has = a.behind.has ∙ rw (p, q) (sym b.behind.has) in
      let reason : one.reason ≡ other.reason =
      one_reason block a.first one.number one.needs one.reason other.reason a.behind.reason
      (rw (first, number, needs) b.behind.reason) in
      same_early one other number (a.behind.line ∙ (ap (λ (x : Placed). x.line) q ∙ sym b.behind.line)) (a.behind.after
      ∙ (ap (λ (x : Placed). x.line) p ∙ sym b.behind.after))
      needs has reason

  -- what one list tells of the other does, too
  never_keeps : (early : List Early) (j : ℕ) → All (IsEarly block placed) early → Contains (numbers_of early) j
      → KeepsAll block placed j → ⊥
  never_keeps [] j all at keeps = omega (arith, at.1)
  never_keeps (each ∷ early) j all (zero, lt, e) keeps =
      let is = all 0 each (omega arith) in
      too_early is.first each is.behind (subst (Keeps block placed is.first) (sym e) (keeps is.first))
  never_keeps (each ∷ early) j all (suc k, lt, e) keeps =
      never_keeps early j (λ i x inside. all (suc i) x (omega (arith, inside))) (k, omega (arith, lt), e) keeps

  pub told_too : (early others : List Early) → AreEarly block placed early → AreEarly block placed others → (j : ℕ)
      → Contains (numbers_of early) j
      → Contains (numbers_of others) j
  told_too early others one other j at = elim (other.others j) [
    | inl there ↦ there
    | inr keeps ↦ absurd (never_keeps early j one.all at keeps)
  ]

  pub by_numbers : (early others : List Early) → All (IsEarly block placed) early → All (IsEarly block placed) others
      → numbers_of early ≡ numbers_of others
      → early ≡ others
  by_numbers [] [] one other e = refl
  by_numbers [] (y ∷ others) one other e = absurd cc
  by_numbers (x ∷ early) [] one other e = absurd cc
  by_numbers (x ∷ early) (y ∷ others) one other e =
      let number : x.number ≡ y.number = cc in
      let numbers : numbers_of early ≡ numbers_of others = cc in
      let head = one_early x y number (one 0 x (omega arith)) (other 0 y (omega arith)) in
      let tail = by_numbers early others (λ i z inside. one (suc i) z (omega (arith, inside)))
      (λ i z inside. other (suc i) z (omega (arith, inside))) numbers in
      cc
