-- What is lawful for a block with units is lawful for the block on either side.
use Rattle.std.proofs.Common.{arith, ◌≡◌, ℕ, zero, suc, true, List, [], ◌∷◌, length, Option, Some, None, refl, sym, ap}
use Rattle.std.proofs.Common.{subst, ◌∙◌, inl, inr, ◌⊎◌}
use Rattle.std.specs.Prelude.{slice_get, slice_set, ◌&&◌, nat_le, IsTrue}
use Rattle.std.proofs.lemmas.Option.{none-some, same_Some}
use Rattle.c62_op.specs.declared.register.Unit.{Unit as FunctionalUnit}
use Rattle.c62_op.specs.declared.operands.Op.{Op}
use Rattle.c62_op.specs.declared.operands.Operands.{Operands}
use Rattle.c62_op.specs.Takes.{takes, is_written}
use Rattle.c62_insn.specs.declared.insn.Insn.{Insn}
use Rattle.c62_insn.specs.Insn.{op_of, operands_of, unit_of}
use Rattle.c62_insn.specs.Stands.{may_stand}
use Rattle.std.proofs.lemmas.Bool.{and_parts, and_from}
use Rattle.c62_read.specs.declared.block.SerialInsn.{SerialInsn}
use Rattle.c62_read.specs.Block.{operations, branch_last, is_block}
use Rattle.c62_read.specs.declared.limits.TheConstants.{MOST_INSTRUCTIONS}
use Rattle.c62_depend.specs.Plan.{unnumbered}
use Rattle.c62_sheet.specs.Lawful.{Spots, issues, IsLawful}
use Rattle.c62_pack.specs.EitherSide.{may_stand_at, IsLawfulOnEitherSide}
use Rattle.c62_pack.proofs.SameIssues.{AreSame as AreSameIssues, rules_same}
use Rattle.c62_pack.proofs.EitherSide.{stands_may}
use Rattle.c62_shortest.specs.Units.{IsWithUnit, AreWithUnits}
use Rattle.c62_shortest.proofs.SameUnits.{are_same, same_length, bounds_there}

-- the units of an instruction with a unit are among those of the instruction
may_stand_too : (p q : Insn) (unit : FunctionalUnit) → IsWithUnit p q → IsTrue (may_stand q unit)
    → IsTrue (may_stand p unit)
may_stand_too p q unit is h =
    let parts = and_parts (is_written (unit_of q) unit) (takes (op_of q) (operands_of q) unit) h in
    let taken : takes (op_of p) (operands_of p) unit ≡ true =
    ap (λ (op : Op). takes op (operands_of p) unit) is.same.op
    ∙ (ap (λ (o : Operands). takes (op_of q) o unit) is.same.operands ∙ parts.1) in
    and_from (is_written (unit_of p) unit) (takes (op_of p) (operands_of p) unit) (written is.written parts.0) taken
  where
    written : (unit_of q ≡ unit_of p) ⊎ (unit_of p ≡ None) → is_written (unit_of q) unit ≡ true
        → is_written (unit_of p) unit ≡ true
    written (inl same) h = subst (λ (o : Option FunctionalUnit). is_written o unit ≡ true) same h
    written (inr none) h = ap (λ (o : Option FunctionalUnit). is_written o unit) none

stand_too : (block other : List Insn) (i : ℕ) (unit : FunctionalUnit) → AreWithUnits block other
    → IsTrue (may_stand_at (slice_get other i) unit)
    → IsTrue (may_stand_at (slice_get block i) unit)
stand_too [] [] i unit with_units h = h
stand_too [] (q ∷ other) i unit with_units h = absurd with_units
stand_too (p ∷ block) [] i unit with_units h = absurd with_units
stand_too (p ∷ block) (q ∷ other) zero unit with_units h = may_stand_too p q unit with_units.0 h
stand_too (p ∷ block) (q ∷ other) (suc i) unit with_units h = stand_too block other i unit with_units.1 h

same_issues : (block other : List Insn) (set : Spots) → AreWithUnits block other
    → AreSameIssues (issues other set) (issues block set)
same_issues [] [] set with_units = tt
same_issues [] (q ∷ other) set with_units = absurd with_units
same_issues (p ∷ block) [] set with_units = absurd with_units
same_issues (p ∷ block) (q ∷ other) [] with_units = tt
same_issues (p ∷ block) (q ∷ other) (None ∷ set) with_units = (tt, same_issues block other set with_units.1)
same_issues (p ∷ block) (q ∷ other) (Some s ∷ set) with_units =
    let same = with_units.0.same in (
      record { op = sym same.op; operands = sym same.operands; cond = sym same.cond; cycle = refl; unit = refl },
      same_issues block other set with_units.1,
    )

pub on_either_side : (block other : List Insn) (set : Spots) → AreWithUnits block other → IsLawful other set
    → IsLawfulOnEitherSide block set
on_either_side block other set with_units lawful =
    let long = same_length block other with_units in
    let same = are_same block other with_units in
    record {
      sized = lawful.sized ∙ sym long;
      units = λ i s at. stand_too block other i s.unit with_units (stands_may other i s.unit (lawful.units i s at));
      within = λ i s at. (let within = lawful.within i s at in omega (arith, within, long));
      rules = rules_same (issues other set) (issues block set) (same_issues block other set with_units) lawful.rules;
      founded = λ i j t depends at. lawful.founded i j t
          (depends.0, bounds_there block other same i j depends.0 depends.1) at;
      delays = λ i j bound s t bounds at_i at_j. lawful.delays i j bound s t
          (bounds_there block other same i j bound bounds) at_i at_j;
    }

-- ---- a unit is written

pub as_written : (block : List Insn) → AreWithUnits block block
as_written [] = tt
as_written (p ∷ block) =
    (record { same = record { op = refl; operands = refl; cond = refl }; written = inl refl }, as_written block)

pub with_unit : (entries : List SerialInsn) (i : ℕ) (entry other : SerialInsn) → slice_get entries i ≡ Some entry
    → IsWithUnit entry.insn other.insn
    → AreWithUnits (unnumbered entries) (unnumbered (slice_set entries i other))
with_unit [] i entry other e is = absurd (none-some entry e)
with_unit (x ∷ entries) zero entry other e is = (
  subst (λ (y : SerialInsn). IsWithUnit y.insn other.insn) (sym (same_Some x entry e)) is,
  as_written
      (unnumbered entries),
)
with_unit (x ∷ entries) (suc i) entry other e is = (
  record { same = record { op = refl; operands = refl; cond = refl }; written = inl refl },
  with_unit entries i entry
      other e is,
)

pub with_branch : (entries own : List SerialInsn) (i k : ℕ) (entry other : SerialInsn) → entries ≡ own → i ≡ k
    → slice_get own i ≡ Some entry → IsWithUnit entry.insn other.insn
    → AreWithUnits (unnumbered own) (unnumbered (slice_set entries k other))
with_branch entries own i k entry other same index at is =
    subst (λ (es : List SerialInsn). AreWithUnits (unnumbered own) (unnumbered (slice_set es k other))) (sym same)
    (subst (λ (n : ℕ). AreWithUnits (unnumbered own) (unnumbered (slice_set own n other))) index
    (with_unit own i entry other at is))

same_operations : (entries others : List SerialInsn) → AreWithUnits (unnumbered entries) (unnumbered others)
    → operations entries ≡ operations others
same_operations [] [] with_units = refl
same_operations [] (q ∷ others) with_units = absurd with_units
same_operations (p ∷ entries) [] with_units = absurd with_units
same_operations (p ∷ entries) (q ∷ others) with_units =
    ap (λ (op : Op). op ∷ operations entries) with_units.0.same.op
    ∙ ap (λ (ops : List Op). op_of q.insn ∷ ops) (same_operations entries others with_units.1)

same_count : (entries others : List SerialInsn) → AreWithUnits (unnumbered entries) (unnumbered others)
    → length entries ≡ length others
same_count [] [] with_units = refl
same_count [] (q ∷ others) with_units = absurd with_units
same_count (p ∷ entries) [] with_units = absurd with_units
same_count (p ∷ entries) (q ∷ others) with_units = ap suc (same_count entries others with_units.1)

pub still_block : (entries others : List SerialInsn) → AreWithUnits (unnumbered entries) (unnumbered others)
    → IsTrue (is_block entries) → IsTrue (is_block others)
still_block entries others with_units is =
    ap (λ (n : ℕ). nat_le n MOST_INSTRUCTIONS && branch_last (operations others))
    (sym (same_count entries others with_units))
    ∙ (ap (λ (ops : List Op). nat_le (length entries) MOST_INSTRUCTIONS && branch_last ops)
    (sym (same_operations entries others with_units)) ∙ is)
