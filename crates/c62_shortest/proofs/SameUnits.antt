-- No dependence, and no way to seat a block, asks which units are written.
use Rattle.std.proofs.Common.{arith, ◌≡◌, ℕ, zero, suc, ◌+◌, ◌-◌, Bool, List, [], ◌∷◌, length, Option, Some, None, refl}
use Rattle.std.proofs.Common.{sym, ap, subst, ◌∙◌, inl, inr, ◌⊎◌, ℤ, pos, ◌-ℤ◌}
use Rattle.std.specs.Prelude.{slice_get, not, ◌&&◌, ◌||◌, IsTrue, Contains}
use Rattle.c62_op.specs.declared.register.Reg.{Reg}
use Rattle.c62_op.specs.declared.register.Side.{Side}
use Rattle.c62_op.specs.declared.register.Cond.{Cond as Condition}
use Rattle.c62_op.specs.declared.register.Unit.{Unit as FunctionalUnit}
use Rattle.c62_op.specs.declared.operands.Op.{Op}
use Rattle.c62_op.specs.declared.operands.Operands.{Operands}
use Rattle.c62_op.specs.Shape.{delay_of, data_path_of, is_load, is_store, is_branch, reads_of, writes_of}
use Rattle.c62_op.specs.Takes.{takes}
use Rattle.c62_insn.specs.declared.insn.Insn.{Insn}
use Rattle.c62_insn.specs.Insn.{IsSameInsn, op_of, operands_of, cond_of, operand_reads, register_writes, reads_register}
use Rattle.c62_insn.specs.Insn.{is_condition_on}
use Rattle.std.specs.List.{list_any}
use Rattle.c62_op.specs.Takes.{same_reg}
use Rattle.c62_rules.specs.Dependence.{IsBound, Bounds, Range, writes_in, is_written_by, are_opposite, condition_in}
use Rattle.c62_rules.specs.Dependence.{exclusive_by, are_exclusive, range_of, range_in, are_apart, disjoint_by}
use Rattle.c62_rules.specs.Dependence.{are_disjoint}
use Rattle.c62_rules.specs.Dependence.IsBound.{ReadAfterWrite, WriteAfterRead, WriteAfterWrite, AfterStore}
use Rattle.c62_rules.specs.Dependence.IsBound.{StoreAfterLoad, BeforeBranch}
use Rattle.c62_sheet.specs.Lawful.{Spots}
use Rattle.c62_bound.specs.Bound.{taken_in, GoesOver}
use Rattle.c62_bound.specs.Laws.{IsSeated}
use Rattle.c62_refute.specs.Window.{IsRefuted}
use Rattle.c62_shortest.specs.Units.{AreWithUnits}

-- the same instruction, or none
abbrev pub IsSameAt : Option Insn → Option Insn → Type 0
IsSameAt None None = Unit {0}
IsSameAt (Some p) (Some q) = IsSameInsn p q
IsSameAt _ _ = ⊥

-- number for number
abbrev pub AreSame : List Insn → List Insn → Type 0
AreSame block other = (i : ℕ) → IsSameAt (slice_get block i) (slice_get other i)

back : (p q : Insn) → IsSameInsn p q → IsSameInsn q p
back p q same = record { op = sym same.op; operands = sym same.operands; cond = sym same.cond }

pub are_same : (block other : List Insn) → AreWithUnits block other → AreSame block other
are_same [] [] with_units i = tt
are_same [] (q ∷ other) with_units i = absurd with_units
are_same (p ∷ block) [] with_units i = absurd with_units
are_same (p ∷ block) (q ∷ other) with_units zero = with_units.0.same
are_same (p ∷ block) (q ∷ other) with_units (suc i) = are_same block other with_units.1 i

pub same_length : (block other : List Insn) → AreWithUnits block other → length block ≡ length other
same_length [] [] with_units = refl
same_length [] (q ∷ other) with_units = absurd with_units
same_length (p ∷ block) [] with_units = absurd with_units
same_length (p ∷ block) (q ∷ other) with_units = ap suc (same_length block other with_units.1)

back_at : (p q : Option Insn) → IsSameAt p q → IsSameAt q p
back_at None None same = tt
back_at None (Some q) same = absurd same
back_at (Some p) None same = absurd same
back_at (Some p) (Some q) same = back p q same

pub same_back : (block other : List Insn) → AreSame block other → AreSame other block
same_back block other same i = back_at (slice_get block i) (slice_get other i) (same i)

-- ---- what an instruction reads and writes

same_writes : (p q : Insn) → IsSameInsn p q → register_writes p ≡ register_writes q
same_writes p q same = ap (λ (op : Op). writes_of op (operands_of p)) same.op
    ∙ ap (λ (o : Operands). writes_of (op_of q) o) same.operands

same_operand_reads : (p q : Insn) → IsSameInsn p q → operand_reads p ≡ operand_reads q
same_operand_reads p q same = ap (λ (op : Op). reads_of op (operands_of p)) same.op
    ∙ ap (λ (o : Operands). reads_of (op_of q) o) same.operands

same_reads : (p q : Insn) (reg : Reg) → IsSameInsn p q → reads_register p reg ≡ reads_register q reg
same_reads p q reg same =
    ap (λ (regs : List Reg). list_any (λ read. same_reg read reg) regs || is_condition_on reg (cond_of p))
    (same_operand_reads p q same)
    ∙ ap (λ (c : Option Condition). list_any (λ read. same_reg read reg) (operand_reads q) || is_condition_on reg c)
    same.cond

writes_at : (p q : Option Insn) (reg : Reg) → IsSameAt p q → writes_in reg p ≡ writes_in reg q
writes_at None None reg same = refl
writes_at None (Some q) reg same = absurd same
writes_at (Some p) None reg same = absurd same
writes_at (Some p) (Some q) reg same = ap (λ (ws : List (Reg × ℕ)). list_any (λ write. same_reg write.0 reg) ws)
    (same_writes p q same)

condition_at : (p q : Option Insn) → IsSameAt p q → condition_in p ≡ condition_in q
condition_at None None same = refl
condition_at None (Some q) same = absurd same
condition_at (Some p) None same = absurd same
condition_at (Some p) (Some q) same = same.cond

range_at : (p q : Option Insn) → IsSameAt p q → range_in p ≡ range_in q
range_at None None same = refl
range_at None (Some q) same = absurd same
range_at (Some p) None same = absurd same
range_at (Some p) (Some q) same = ap (λ (op : Op). range_of op (operands_of p)) same.op
    ∙ ap (λ (o : Operands). range_of (op_of q) o) same.operands

taken_at : (p q : Option Insn) (unit : FunctionalUnit) → IsSameAt p q → taken_in p unit ≡ taken_in q unit
taken_at None None unit same = refl
taken_at None (Some q) unit same = absurd same
taken_at (Some p) None unit same = absurd same
taken_at (Some p) (Some q) unit same =
    ap (λ (op : Op). takes op (operands_of p) unit) same.op
    ∙ ap (λ (o : Operands). takes (op_of q) o unit) same.operands

-- what stands in the one under a number stands in the other
pub record IsThere (other : List Insn) (i : ℕ) (p : Insn) : Type 0 where
  pub insn : Insn
  pub is : slice_get other i ≡ Some insn
  pub same : IsSameInsn p insn

found : (p : Insn) (q : Option Insn) → IsSameAt (Some p) q → (insn : Insn) × (q ≡ Some insn) × IsSameInsn p insn
found p None same = absurd same
found p (Some q) same = (q, refl, same)

there : (block other : List Insn) (i : ℕ) (p : Insn) → AreSame block other → slice_get block i ≡ Some p
    → IsThere other i p
there block other i p same e =
    let it = found p (slice_get other i) (subst (λ (o : Option Insn). IsSameAt o (slice_get other i)) e (same i)) in
    record { insn = it.0; is = it.1; same = it.2 }

-- ---- dependences

module _ (block other : List Insn) (same : AreSame block other) where
  written_by : (i count : ℕ) (reg : Reg) → is_written_by block i count reg ≡ is_written_by other i count reg
  written_by i zero reg = refl
  written_by i (suc count) reg =
      ap (λ (b : Bool). b || writes_in reg (slice_get block (i + count))) (written_by i count reg)
      ∙ ap (λ (b : Bool). is_written_by other i count reg || b)
      (writes_at (slice_get block (i + count)) (slice_get other (i + count)) reg (same (i + count)))

  exclusive_on : (i j : ℕ) (one two : Option Condition)
      → exclusive_by block i j one two ≡ exclusive_by other i j one two
  exclusive_on i j None two = refl
  exclusive_on i j (Some one) None = refl
  exclusive_on i j (Some one) (Some two) = ap (λ (b : Bool). are_opposite one two && not b)
      (written_by i (j - i) one.reg)

  exclusive : (i j : ℕ) → are_exclusive block i j ≡ are_exclusive other i j
  exclusive i j =
      exclusive_on i j (condition_in (slice_get block i)) (condition_in (slice_get block j))
      ∙ (ap (λ (c : Option Condition). exclusive_by other i j c (condition_in (slice_get block j)))
      (condition_at (slice_get block i) (slice_get other i) (same i))
      ∙ ap (λ (c : Option Condition). exclusive_by other i j (condition_in (slice_get other i)) c)
      (condition_at (slice_get block j) (slice_get other j) (same j)))

  disjoint_on : (i j : ℕ) (one two : Option Range) → disjoint_by block i j one two ≡ disjoint_by other i j one two
  disjoint_on i j None two = refl
  disjoint_on i j (Some one) None = refl
  disjoint_on i j (Some one) (Some two) = ap (λ (b : Bool). are_apart one two && not b) (written_by i (j - i) one.base)

  disjoint : (i j : ℕ) → are_disjoint block i j ≡ are_disjoint other i j
  disjoint i j =
      disjoint_on i j (range_in (slice_get block i)) (range_in (slice_get block j))
      ∙ (ap (λ (r : Option Range). disjoint_by other i j r (range_in (slice_get block j)))
      (range_at (slice_get block i) (slice_get other i) (same i))
      ∙ ap (λ (r : Option Range). disjoint_by other i j (range_in (slice_get other i)) r)
      (range_at (slice_get block j) (slice_get other j) (same j)))

  writes_there : (p q : Insn) (reg : Reg) (delay : ℕ) → IsSameInsn p q → Contains (register_writes p) (reg, delay)
      → Contains (register_writes q) (reg, delay)
  writes_there p q reg delay alike h = subst (λ (ws : List (Reg × ℕ)). Contains ws (reg, delay)) (same_writes p q alike)
      h

  accesses : (p q : Insn) → IsSameInsn p q → IsTrue (is_load (op_of p)) ⊎ IsTrue (is_store (op_of p))
      → IsTrue (is_load (op_of q)) ⊎ IsTrue (is_store (op_of q))
  accesses p q alike (inl load) = inl (ap is_load (sym alike.op) ∙ load)
  accesses p q alike (inr store) = inr (ap is_store (sym alike.op) ∙ store)

  bound_there : (i j : ℕ) (p q p' q' : Insn) (bound : ℤ) → IsSameInsn p p' → IsSameInsn q q'
      → IsBound block i j p q bound → IsBound other i j p' q' bound
  bound_there i j p q p' q' bound one two (ReadAfterWrite reg delay writes reads is) =
      ReadAfterWrite reg delay (writes_there p p' reg delay one writes) (sym (same_reads q q' reg two) ∙ reads) is
  bound_there i j p q p' q' bound one two (WriteAfterRead reg delay writes reads is) =
      WriteAfterRead reg delay (writes_there q q' reg delay two writes) (sym (same_reads p p' reg one) ∙ reads) is
  bound_there i j p q p' q' bound one two (WriteAfterWrite reg first second writes others runs is) =
      WriteAfterWrite reg first second (writes_there p p' reg first one writes)
      (writes_there q q' reg second two others) (sym (exclusive i j) ∙ runs) is
  bound_there i j p q p' q' bound one two (AfterStore store access meets is) =
      AfterStore (ap is_store (sym one.op) ∙ store) (accesses q q' two access) (sym (disjoint i j) ∙ meets) is
  bound_there i j p q p' q' bound one two (StoreAfterLoad load store meets is) =
      StoreAfterLoad (ap is_load (sym one.op) ∙ load) (ap is_store (sym two.op) ∙ store) (sym (disjoint i j) ∙ meets) is
  bound_there i j p q p' q' bound one two (BeforeBranch branch is) =
      BeforeBranch (ap is_branch (sym two.op)
      ∙ branch) (subst (λ (op : Op). bound ≡ pos (delay_of op) -ℤ pos 5) one.op is)

  pub bounds_there : (i j : ℕ) (bound : ℤ) → Bounds block i j bound → Bounds other i j bound
  bounds_there i j bound bounds =
      let one = there block other i bounds.first same bounds.is_first in
      let two = there block other j bounds.second same bounds.is_second in
      record {
        first = one.insn;
        second = two.insn;
        is_first = one.is;
        is_second = two.is;
        before = bounds.before;
        applies = bound_there i j bounds.first bounds.second one.insn two.insn bound one.same two.same bounds.applies;
      }

  goes_there : (side : Side) (i : ℕ) → GoesOver other side i → GoesOver block side i
  goes_there side i over insn e =
      let it = there block other i insn same e in
      ap data_path_of it.same.operands ∙ over it.insn it.is

-- ---- schedules

-- what seats the one block seats the other
pub seats : (block other : List Insn) (set : Spots) (cycles : ℕ) → AreSame block other → length block ≡ length other
    → IsSeated block set cycles → IsSeated other set cycles
seats block other set cycles same long seated =
    let back : AreSame other block = same_back block other same in
    record {
      complete = λ i less. seated.complete i (omega (arith, long, less));
      units = λ i s at. sym (taken_at (slice_get block i) (slice_get other i) s.unit (same i)) ∙ seated.units i s at;
      each_unit = λ i j s t low high at_i at_j cycle unit. seated.each_unit i j s t (omega (arith, long, low))
          (omega (arith, long, high)) at_i at_j cycle unit;
      each_path = λ side i j s t low high at_i at_j cycle over_i over_j.
          seated.each_path side i j s t (omega (arith, long, low)) (omega (arith, long, high)) at_i at_j cycle
          (goes_there block other same side i over_i) (goes_there block other same side j over_j);
      delays = λ i j bound s t bounds at_i at_j. seated.delays i j bound s t
          (bounds_there other block back i j bound bounds) at_i at_j;
      ends = λ i insn s is at.
          (let it = there other block i insn back is in
          let delay : delay_of (op_of insn) ≡ delay_of (op_of it.insn) = ap delay_of it.same.op in
          let own = seated.ends i it.insn s it.is at in
          omega (arith, delay, own));
    }

-- what is refuted of the block with units is refuted of the block
pub refuted : (block other : List Insn) (most : ℕ) → AreWithUnits block other → IsRefuted other most
    → IsRefuted block most
refuted block other most with_units none set cycles seated few =
    none set cycles (seats block other set cycles (are_same block other with_units) (same_length block other with_units)
    seated) few
