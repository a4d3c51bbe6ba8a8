-- The examples of breaches of the packet rules (docs/MACHINE.md, "Packet rules"; SPRU189, "Resource Constraints").
use Rattle.std.specs.Prelude.{◌≡◌, ℕ, [], ◌∷◌, Some, None}
use Rattle.c62_op.specs.declared.register.Side.TheVariants.{A, B}
use Rattle.c62_op.specs.declared.register.Letter.TheVariants.{L, S, M, D}
use Rattle.c62_op.specs.declared.register.Reg.{Reg}
use Rattle.c62_op.specs.declared.register.Unit.{Unit as FunctionalUnit}
use Rattle.c62_op.specs.declared.operands.Op.TheVariants.{Add, Mpy}
use Rattle.c62_op.specs.declared.operands.AddressForm.{AddressForm}
use Rattle.c62_op.specs.declared.operands.Offset.{Offset}
use Rattle.c62_op.specs.declared.operands.Operands.TheVariants.{Three, Access}
use Rattle.c62_insn.specs.declared.insn.Insn.{Insn}
use Rattle.c62_insn.specs.Insn.{op_of, operands_of, cond_of}
use Rattle.c62_rules.specs.PacketRules.{Issue, HasOneLanding}
use Rattle.c62_rules.specs.Manual.{HasOneEachUnit, HasOneEachCrossPath, HasOneEachDataPath, HasFourReads}

abbrev pub l1 : FunctionalUnit
l1 = record { letter = L; side = A }

abbrev pub s1 : FunctionalUnit
s1 = record { letter = S; side = A }

abbrev pub m1 : FunctionalUnit
m1 = record { letter = M; side = A }

abbrev pub d1 : FunctionalUnit
d1 = record { letter = D; side = A }

abbrev pub d2 : FunctionalUnit
d2 = record { letter = D; side = B }

abbrev pub issue : Insn → ℕ → FunctionalUnit → Issue
issue insn cycle unit = record { insn = insn; cycle = cycle; unit = unit }

-- two instructions on .L1 in one cycle, as ADD .L1 A1,A2,A3 and SUB .L1 A4,A5,A6
abbrev pub TwoOnOneUnit : Type 0
TwoOnOneUnit = (p q : Insn) → HasOneEachUnit (Some (issue p 0 l1) ∷ Some (issue q 0 l1) ∷ []) → ⊥

-- two over 1X, as ADD .L1X A1,B1,A2 and SUB .S1X A3,B3,A4
abbrev pub TwoOverCrossPath : Type 0
TwoOverCrossPath = (p q : Insn) (a b d e f g : Reg) → operands_of p ≡ Three a b d → operands_of q ≡ Three e f g → b.side ≡ B → f.side ≡ B
    → HasOneEachCrossPath (Some (issue p 0 l1) ∷ Some (issue q 0 s1) ∷ []) → ⊥

-- two over T1, as LDW .D1T1 *A4,A5 and LDW .D2T1 *B4,A6
abbrev pub TwoOverDataPath : Type 0
TwoOverDataPath = (p q : Insn) (a b d e : Reg) (form other : AddressForm) (offset second : Offset) → operands_of p ≡ Access a b form offset
    → operands_of q ≡ Access d e other second → a.side ≡ A → d.side ≡ A
    → HasOneEachDataPath (Some (issue p 0 d1) ∷ Some (issue q 0 d2) ∷ []) → ⊥

-- five reads of A1 by ADD .L1 A1,A1,A5, MPY .M1 A1,A1,A4 and SUB .S1 A1,A2,A3
abbrev pub FiveReads : Type 0
FiveReads = (p q r : Insn) (a b d e f : Reg) → operands_of p ≡ Three a a d → operands_of q ≡ Three a a e → operands_of r ≡ Three a b f
    → HasFourReads (Some (issue p 0 l1) ∷ Some (issue q 0 m1) ∷ Some (issue r 0 s1) ∷ []) → ⊥

-- two writes of A3 that land in cycle 1, by MPY .M1 A1,A2,A3 in cycle 0 and ADD .L1 A4,A5,A3 in cycle 1
abbrev pub TwoLandings : Type 0
TwoLandings = (p q : Insn) (a b d e f : Reg) → op_of p ≡ Mpy → op_of q ≡ Add → operands_of p ≡ Three a b d → operands_of q ≡ Three e f d
    → cond_of p ≡ None
    → HasOneLanding (Some (issue p 0 m1) ∷ Some (issue q 1 l1) ∷ []) → ⊥
