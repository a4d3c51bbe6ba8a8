-- Since when registers keep their values, one instruction more at a time.
use Rattle.c62_depend.proofs.Common.{◌≡◌, ℕ, zero, suc, ◌+◌, ◌-◌, ◌<◌, ◌≤◌, Bool, true, false, List, Option, Some, None}
use Rattle.c62_depend.proofs.Common.{refl, sym, ap, ◌∙◌, subst, arith, inl, inr}
use Rattle.c62_depend.proofs.Common.{◌&&◌, ◌||◌, not, nat_lt, nat_tests, if◌then◌else◌, get_or, length, slice_get}
use Rattle.c62_depend.proofs.Common.{slice_index, cases_eq, cases_lt, Reg, Insn, Uses, RegSet, reg_in, insns_in}
use Rattle.c62_depend.proofs.Common.{◌++◌, [], ◌∷◌, ◌==◌, nat_le, length-append, cond_of, same_reg, same_reg-is}
use Rattle.c62_depend.proofs.Common.{and_parts, are_exclusive, are_disjoint}
use Rattle.std.specs.Prelude.{option_map}
use Rattle.std.proofs.lemmas.List.{get_or_default}
use Rattle.c62_rules.specs.Dependence.{Range, range_in, are_apart, disjoint_by}
use Rattle.c62_pair.specs.declared.covered.Covered.{Covered}
use Rattle.c62_depend.specs.declared.since.Since.{Since}
use Rattle.c62_pair.specs.Covered.{range_is}
use Rattle.c62_depend.specs.Direct.{are_ordered}
unfoldable use Rattle.c62_depend.specs.Direct.{keep_order}
use Rattle.c62_depend.specs.Since.{apart_since, AreSince}
use Rattle.c62_depend.proofs.Units.{each_more}
use Rattle.c62_depend.proofs.ConditionNumbers.{exclusive_is}
use Rattle.c62_op.specs.Register.{register_index}
use Rattle.c62_rules.specs.Dependence.{writes_in, is_written_by}
use Rattle.c62_depend.specs.Since.{StandsSince, StandSince, IsSince, AreSinceBefore}
use Rattle.c62_depend.proofs.WrittenLemmas.{writes_are}
use Rattle.c62_depend.proofs.Latencies.{insn_at}
use Rattle.c62_depend.proofs.SetLoops.{AreChanged, changed_in, changed_not}

pub put_at : (old new : List ℕ) (set : RegSet) (at rest number : ℕ) → 0 ≡ rest
    → AreChanged (λ (one other : ℕ). other ≡ number) old new 0 set.bits at rest → (reg : Reg)
    → slice_index new (register_index reg) ≡ (if reg_in set reg then number else slice_index old (register_index reg))
put_at old new set at rest number none are reg = by_test (reg_in set reg) refl
  where
    by_test : (t : Bool) → reg_in set reg ≡ t
        → slice_index new (register_index reg) ≡ (if t then number else slice_index old (register_index reg))
    by_test true is = changed_in (λ (one other : ℕ). other ≡ number) old new 0 set at rest reg none are is
    by_test false is = changed_not (λ (one other : ℕ). other ≡ number) old new 0 set at rest reg none are is

-- before the first instruction
pub stand_first : (block : List Insn) (numbers : List ℕ) → ((index : ℕ) → slice_index numbers index ≡ 0)
    → StandSince block 0 numbers
stand_first block numbers zeros reg i low =
    let first : i ≡ 0 = omega (arith, low) in
    rw (first, zeros (register_index reg)) refl

-- a register, one instruction more
stands_more : (uses : List Uses) (j : ℕ) (u : Uses) (reg : Reg) (number : ℕ) → j < length uses → u ≡ get_or uses j u
    → StandsSince (insns_in uses) j reg number
    → StandsSince (insns_in uses) (j + 1) reg (if reg_in u.written reg then j + 1 else number)
stands_more uses j u reg number within at stands i low = elim (cases_eq i (j + 1)) [
  | inl last ↦
      let none : j + 1 - i ≡ 0 = omega arith in
      rw none (by_last last (reg_in u.written reg))
  | inr earlier ↦
      let count : j + 1 - i ≡ suc (j - i) = omega arith in
      let place : i + (j - i) ≡ j = omega arith in
      rw (count, place, insn_at uses j u within at, stands i (omega arith), ← writes_are u reg)
      (by_test (reg_in u.written reg) (omega arith))
]
  where
    old : nat_lt j number ≡ false
    old = (let none : 0 ≡ j - j = omega arith in sym (stands j (omega arith))
        ∙ ap (λ n. is_written_by (insns_in uses) j n reg) (sym none))

    by_last : i ≡ j + 1 → (t : Bool) → false ≡ nat_lt i (if t then j + 1 else number)
    by_last last true = grind (arith, nat_tests)
    by_last last false = grind (arith, nat_tests, old)

    by_test : (t : Bool) → i ≤ j → (nat_lt i number || t) ≡ nat_lt i (if t then j + 1 else number)
    by_test true before = grind (arith, nat_tests)
    by_test false before = grind (arith, nat_tests)

pub stand_more : (uses : List Uses) (j : ℕ) (u : Uses) (old new : List ℕ) → j < length uses → u ≡ get_or uses j u
    → ((reg : Reg) → slice_index new (register_index reg) ≡
    (if reg_in u.written reg then j + 1 else slice_index old (register_index reg)))
    → StandSince (insns_in uses) j old → StandSince (insns_in uses) (j + 1) new
stand_more uses j u old new within at put stand reg =
    subst (StandsSince (insns_in uses) (j + 1) reg) (sym (put reg))
    (stands_more uses j u reg (slice_index old (register_index reg)) within at (stand reg))

-- the numbers of an instruction more
pub since_more : (uses : List Uses) (n : ℕ) (xs ys : List Since) (x : Since) (u : Uses) → AreSinceBefore uses n xs
    → ys ≡ xs ++ x ∷ []
    → n < length uses → u ≡ get_or uses n u → IsSince (insns_in uses) n u.insn x → AreSinceBefore uses (n + 1) ys
since_more uses n xs ys x u before added within at one = record {
  long = ap length added ∙ length-append xs (x ∷ []) ∙ ap (λ (m : ℕ). m + 1) before.long;
  each = λ j v d low at_j. each_more (λ k s. (w : Uses) → w ≡ get_or uses k w
      → IsSince (insns_in uses) k w.insn s) xs ys x
      (λ k e inside w is. before.each k w e inside is) added
      (λ w is.
      let same : w ≡ u = is ∙ ap (λ (m : ℕ). get_or uses m w) before.long ∙ get_or_default uses n w u within ∙ sym at in
      rw (same, before.long) one) j d low v at_j;
}

-- what the numbers at the registers tell of an instruction
pub since_none : (uses : List Uses) (xs : List Since) → xs ≡ [] → AreSinceBefore uses 0 xs
since_none uses xs none = record
    { long = ap length none; each = λ j one d low. absurd (omega (arith, low, ap length none)) }

-- ---- the excuses

pub exclusive_told : (uses : List Uses) (since : List Since) (i j : ℕ) (p q : Uses) (d : Since) → i < j
    → j < length uses → p ≡ get_or uses i p
    → q ≡ get_or uses j q → AreSince uses since
    → ((p.test == q.opposite) && nat_le (get_or since j d).condition i) ≡ are_exclusive (insns_in uses) i j
exclusive_told uses since i j p q d before within at_i at_j are =
    let block = insns_in uses in
    let first : slice_get block i ≡ Some p.insn = insn_at uses i p (omega arith) at_i in
    let second : slice_get block j ≡ Some q.insn = insn_at uses j q within at_j in
    let known : IsSince block j q.insn (get_or since j d) = are.each j q d (omega (arith, within, are.long)) at_j in
    rw (p.test_is, q.opposite_is, first, second)
    (exclusive_is block i j (cond_of p.insn) (cond_of q.insn) (get_or since j d).condition
    (λ cond e. known.condition cond e i (omega arith)))

pub disjoint_told : (uses : List Uses) (since : List Since) (i j : ℕ) (p q : Uses) (d : Since) → i < j → j < length uses
    → p ≡ get_or uses i p
    → q ≡ get_or uses j q → AreSince uses since
    → apart_since p.covered q.covered (get_or since j d).base i ≡ are_disjoint (insns_in uses) i j
disjoint_told uses since i j p q d before within at_i at_j are =
    let first : slice_get block i ≡ Some p.insn = insn_at uses i p (omega arith) at_i in
    let second : slice_get block j ≡ Some q.insn = insn_at uses j q within at_j in
    let known : IsSince block j q.insn (get_or since j d) = are.each j q d (omega (arith, within, are.long)) at_j in
    told p.covered q.covered (λ range e. known.base range (sym q.covered_is ∙ e) i (omega arith))
    ∙ ap (λ (o : Option Range). disjoint_by block i j o (option_map range_is q.covered)) (p.covered_is
    ∙ ap range_in (sym first))
    ∙ ap (λ (o : Option Range). disjoint_by block i j (range_in (slice_get block i)) o) (q.covered_is
    ∙ ap range_in (sym second))
  where
    block : List Insn
    block = insns_in uses

    told : (a b : Option Covered)
        → ((range : Range) → option_map range_is b ≡ Some range
        → is_written_by block i (j - i) range.base ≡ nat_lt i (get_or since j d).base)
        → apart_since a b (get_or since j d).base i ≡ disjoint_by block i j (option_map range_is a)
        (option_map range_is b)
    told None None stands = refl
    told None (Some other) stands = refl
    told (Some one) None stands = refl
    told (Some one) (Some other) stands = by_test (are_apart (range_is one) (range_is other)) refl
      where
        by_test : (t : Bool) → are_apart (range_is one) (range_is other) ≡ t
            → (t && nat_le (get_or since j d).base i) ≡ (t && not (is_written_by block i (j - i) one.base))
        by_test false is = refl
        by_test true is =
            let same : one.base ≡ other.base = same_reg-is one.base other.base
            (and_parts (same_reg one.base other.base) _ is).0 in
            rw (same, stands (range_is other) refl) (grind (arith, nat_tests))

-- an order of two accesses
pub order_told : (uses : List Uses) (i j : ℕ) (p q : Uses) (meets disjoint : Bool) → i < j → j < length uses
    → p ≡ get_or uses i p → q ≡ get_or uses j q
    → meets ≡ ((p.stores && (q.loads || q.stores)) || (p.loads && q.stores))
    → disjoint ≡ are_disjoint (insns_in uses) i j
    → (meets && not disjoint) ≡ keep_order (insns_in uses) i j
unfolding keep_order
order_told uses i j p q meets disjoint before within at_i at_j is apart =
    let first : slice_get (insns_in uses) i ≡ Some p.insn = insn_at uses i p (omega arith) at_i in
    let second : slice_get (insns_in uses) j ≡ Some q.insn = insn_at uses j q within at_j in
    ap (λ (t : Bool). t && not disjoint) (is ∙ rw (p.store_is, p.load_is, q.store_is, q.load_is) refl)
    ∙ ap (λ (t : Bool). are_ordered (Some p.insn) (Some q.insn) && not t) apart
    ∙ ap (λ (o : Option Insn). are_ordered o (Some q.insn) && not (are_disjoint (insns_in uses) i j)) (sym first)
    ∙ ap (λ (o : Option Insn). are_ordered (slice_get (insns_in uses) i) o && not (are_disjoint (insns_in uses) i j))
    (sym second)
