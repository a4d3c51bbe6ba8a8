-- What is asked of two instructions of a path is asked of them wherever as much stands between.
use Rattle.std.proofs.Common.{◌≡◌, ℕ, zero, suc, ◌+◌, ◌-◌, ◌<◌, ◌≤◌, Bool, true, false, ◌&&◌, not, ℤ, List, Option}
use Rattle.std.proofs.Common.{Some, None, refl, sym, ◌∙◌, ap, subst, ◌⊎◌, inl, inr, ⊎_elim, arith}
use Rattle.std.specs.Prelude.{slice_get}
use Rattle.std.specs.List.{list_any}
use Rattle.std.proofs.lemmas.Bool.{cases_lt, or_left, or_right, false≢true}
use Rattle.std.proofs.lemmas.Option.{none-some, same_Some}
use Rattle.c62_op.specs.declared.register.Reg.{Reg}
use Rattle.c62_op.specs.declared.operands.Op.{Op}
use Rattle.c62_op.specs.declared.operands.Operands.{Operands}
use Rattle.c62_op.specs.Shape.{reads_of}
use Rattle.c62_op.specs.Takes.{same_reg}
use Rattle.c62_op.proofs.Registers.{same_reg-is, same_reg-refl}
use Rattle.c62_op.specs.declared.register.Cond.{Cond as Condition}
use Rattle.c62_insn.specs.declared.insn.Insn.{Insn}
use Rattle.c62_insn.specs.Insn.{op_of, operands_of, reads_register}
use Rattle.c62_rules.specs.Exclusive.{writes_in, is_written_by, condition_in, exclusive_by, are_exclusive}
use Rattle.c62_rules.specs.Disjoint.{Range, range_of, range_in, are_apart, disjoint_by, are_disjoint}
use Rattle.c62_rules.specs.Dependence.{IsBound}
use Rattle.c62_rules.specs.Dependence.IsBound.{ReadAfterWrite, WriteAfterRead, WriteAfterWrite, AfterStore}
use Rattle.c62_rules.specs.Dependence.IsBound.{StoreAfterLoad, BeforeBranch}
use Rattle.c62_meaning.specs.Instances.{IsOfData, IsOfMemory, DataBounds}
use Rattle.c62_loop.proofs.Apart.{any_in}
use Rattle.std.proofs.lemmas.Bool.Decides.{nat_tests}

written_by : (block : List Insn) (i count : ℕ) (reg : Reg) → is_written_by block i count reg ≡ true → (k : ℕ)
    × (k < count) × (writes_in reg (slice_get block (i + k)) ≡ true)
written_by block i zero reg e = absurd (false≢true e)
written_by block i (suc count) reg e = grind (arith, written_by block i count reg)

is_written : (block : List Insn) (i count k : ℕ) (reg : Reg) → k < count
    → writes_in reg (slice_get block (i + k)) ≡ true → is_written_by block i count reg ≡ true
is_written block i zero k reg l e = absurd (omega arith)
is_written block i (suc count) k reg l e =
    ⊎_elim {C = is_written_by block i (suc count) reg ≡ true}
    (λ (u : k < count). or_left _ _ (is_written block i count k reg u e))
    (λ (u : count ≤ k). let s : k ≡ count = omega arith in grind (arith, or_right))
    (cases_lt k count)

not_less : (a w v : Bool) → (a ≡ true → w ≡ true → v ≡ true) → a && not w ≡ false → a && not v ≡ false
not_less a w v h e = grind arith

-- ---- what tests and accesses read

conditional : (found : Option Insn) (test : Condition) → condition_in found ≡ Some test
    → (insn : Insn) × (found ≡ Some insn) × (reads_register insn test.reg ≡ true)
conditional None test e = absurd (none-some test e)
conditional (Some insn) test e = (
  insn,
  refl,
  grind (arith, or_right, same_reg-refl test.reg),
)

reads_base : (op : Op) (operands : Operands) (range : Range) → range_of op operands ≡ Some range
    → list_any (λ (read : Reg). same_reg read range.base) (reads_of op operands) ≡ true
reads_base op operands range e = grind (arith, same_Some, any_in, same_reg-refl)

accessing : (found : Option Insn) (range : Range) → range_in found ≡ Some range
    → (insn : Insn) × (found ≡ Some insn) × (reads_register insn range.base ≡ true)
accessing None range e = absurd (none-some range e)
accessing (Some insn) range e = (
  insn,
  refl,
  grind (arith, or_left, reads_base (op_of insn) (operands_of insn) range e),
)

-- ---- two paths

-- an instruction that is there doesn't read this register
abbrev pub IsUnread : Option Insn → Reg → Type 0
IsUnread found reg = (insn : Insn) → found ≡ Some insn → reads_register insn reg ≡ false

-- The two are numbers i and j of one path, and i' and j' of another. Each that stands from i on and before j stands
-- from i' on and before j' too, or writes only what number j doesn't read.
module _ (one other : List Insn) (i j i' j' : ℕ) (lt : i < j) (lt' : i' < j')
    (first : slice_get one i ≡ slice_get other i') (second : slice_get one j ≡ slice_get other j')
    (between : (k : ℕ) (insn : Insn) → i ≤ k → k < j → slice_get one k ≡ Some insn → ((n : ℕ) × (i' ≤ n) × (n < j')
    × (slice_get other n ≡ Some insn)) ⊎
    ((reg : Reg) → writes_in reg (Some insn) ≡ true → IsUnread (slice_get one j) reg)) where
  written : (reg : Reg) (last : Insn) → slice_get one j ≡ Some last → reads_register last reg ≡ true
      → is_written_by one i (j - i) reg ≡ true → is_written_by other i' (j' - i') reg ≡ true
  written reg last is_last reads e =
      let r = written_by one i (j - i) reg e in
      grind (arith, by_insn (i + r.0))
    where
      by_insn : (k : ℕ) → i ≤ k → k < j → (o : Option Insn) → slice_get one k ≡ o → writes_in reg o ≡ true
          → is_written_by other i' (j' - i') reg ≡ true
      by_insn k l u None at t = absurd (false≢true t)
      by_insn k l u (Some insn) at t = elim (between k insn l u at) [
        | inl b ↦ (let low : i' ≤ b.0 = b.1 in
            let high : b.0 < j' = b.2 in
            let same : b.0 ≡ i' + (b.0 - i') = omega arith in
            is_written other i' (j' - i') (b.0 - i') reg (omega arith)
            (subst (λ n. writes_in reg (slice_get other n) ≡ true) same (ap (λ o. writes_in reg o) b.3 ∙ t)))
        | inr unread ↦ absurd (false≢true (sym (unread reg t last is_last) ∙ reads))
      ]

  exclusive : are_exclusive one i j ≡ false → are_exclusive other i' j' ≡ false
  exclusive e =
      ap (λ o. exclusive_by other i' j' (condition_in o) (condition_in (slice_get other j'))) (sym first)
      ∙ ap (λ o. exclusive_by other i' j' (condition_in (slice_get one i)) (condition_in o)) (sym second)
      ∙ by_conditions (condition_in (slice_get one i)) (condition_in (slice_get one j)) refl e
    where
      by_conditions : (c d : Option Condition) → condition_in (slice_get one j) ≡ d → exclusive_by one i j c d ≡ false
          → exclusive_by other i' j' c d ≡ false
      by_conditions (Some c) (Some d) is_d e =
          let r = conditional (slice_get one j) d is_d in
          grind (arith, nat_tests, not_less, written, same_reg-is)
      by_conditions (Some c) None is_d e = refl
      by_conditions None (Some d) is_d e = refl
      by_conditions None None is_d e = refl

  disjoint : are_disjoint one i j ≡ false → are_disjoint other i' j' ≡ false
  disjoint e =
      ap (λ o. disjoint_by other i' j' (range_in o) (range_in (slice_get other j'))) (sym first)
      ∙ ap (λ o. disjoint_by other i' j' (range_in (slice_get one i)) (range_in o)) (sym second)
      ∙ by_ranges (range_in (slice_get one i)) (range_in (slice_get one j)) refl e
    where
      by_ranges : (a b : Option Range) → range_in (slice_get one j) ≡ b → disjoint_by one i j a b ≡ false
          → disjoint_by other i' j' a b ≡ false
      by_ranges (Some a) (Some b) is_b e =
          let r = accessing (slice_get one j) b is_b in
          grind (
            arith,
            not_less (are_apart a b) (is_written_by one i (j - i) a.base) (is_written_by other i' (j' - i') a.base),
            written a.base r.0 r.1,
            same_reg-is a.base b.base,
          )
      by_ranges (Some a) None is_b e = refl
      by_ranges None (Some b) is_b e = refl
      by_ranges None None is_b e = refl

  bound_there : (p q : Insn) (bound : ℤ) (b : IsBound one i j p q bound) → IsOfData b
      → (c : IsBound other i' j' p q bound) × IsOfData c × (IsOfMemory c → IsOfMemory b)
  bound_there p q bound (ReadAfterWrite reg delay w r e) h = (ReadAfterWrite reg delay w r e, h, λ m. m)
  bound_there p q bound (WriteAfterRead reg delay w r e) h = (WriteAfterRead reg delay w r e, h, λ m. m)
  bound_there p q bound (WriteAfterWrite reg a b v w x e) h = (WriteAfterWrite reg a b v w (exclusive x) e, h, λ m. m)
  bound_there p q bound (AfterStore s l x e) h = (AfterStore s l (disjoint x) e, h, λ m. m)
  bound_there p q bound (StoreAfterLoad l s x e) h = (StoreAfterLoad l s (disjoint x) e, h, λ m. m)
  bound_there p q bound (BeforeBranch b e) h = absurd h

  -- the same is asked, of memory where it is so here
  pub asked_there : (bound : ℤ) (d : DataBounds one i j bound)
      → (e : DataBounds other i' j' bound) × (e.bounds.first ≡ d.bounds.first) × (e.bounds.second ≡ d.bounds.second)
      × (IsOfMemory e.bounds.applies → IsOfMemory d.bounds.applies)
  asked_there bound d =
      let r = bound_there d.bounds.first d.bounds.second bound d.bounds.applies d.of_data in (
        record {
          bounds = record {
            first = d.bounds.first;
            second = d.bounds.second;
            is_first = sym first ∙ d.bounds.is_first;
            is_second = sym second ∙ d.bounds.is_second;
            before = lt';
            applies = r.0;
          };
          of_data = r.1;
        },
        refl,
        refl,
        r.2,
      )
