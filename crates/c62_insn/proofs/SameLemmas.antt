-- Two instructions with the same parts are one.
use Rattle.std.proofs.Common.{◌≡◌, ap, subst, Option, None}
use Rattle.std.proofs.Props.{props}
use Rattle.c62_op.specs.declared.register.Cond.{Cond as Condition}
use Rattle.c62_op.specs.declared.register.Unit.{Unit as FunctionalUnit}
use Rattle.c62_op.specs.declared.operands.Op.{Op}
use Rattle.c62_op.specs.declared.operands.Operands.{Operands}
use Rattle.c62_insn.specs.declared.fault.FormFault.{FormFault}
use Rattle.c62_insn.specs.declared.insn.Insn.{Insn}
use Rattle.c62_insn.specs.Fault.{form_fault}

-- the instruction of these parts
abbrev made : (op : Op) (operands : Operands) (cond : Option Condition) (unit : Option FunctionalUnit)
    → form_fault op operands cond unit ≡ None → Insn
made op operands cond unit h = record { op = op; operands = operands; cond = cond; unit = unit; well_formed = h }

fault_prop : (f g : Option FormFault) → IsProp (f ≡ g)
fault_prop f g = hlevel props

same_unit : (op : Op) (operands : Operands) (cond : Option Condition) (unit other : Option FunctionalUnit)
    → unit ≡ other
    → (h : form_fault op operands cond unit ≡ None) (k : form_fault op operands cond other ≡ None)
    → made op operands cond unit h ≡ made op operands cond other k
same_unit op operands cond unit other e h =
    subst (λ (u : Option FunctionalUnit). (k : form_fault op operands cond u ≡ None)
    → made op operands cond unit h ≡ made op operands cond u k) e
    (λ k. ap (made op operands cond unit) (fault_prop (form_fault op operands cond unit) None h k))

same_condition : (op : Op) (operands : Operands) (cond test : Option Condition) (unit other : Option FunctionalUnit)
    → cond ≡ test → unit ≡ other
    → (h : form_fault op operands cond unit ≡ None) (k : form_fault op operands test other ≡ None)
    → made op operands cond unit h ≡ made op operands test other k
same_condition op operands cond test unit other c e h =
    subst (λ (t : Option Condition). (k : form_fault op operands t other ≡ None)
    → made op operands cond unit h ≡ made op operands t other k) c
    (λ k. same_unit op operands cond unit other e h k)

same_operands : (op : Op) (operands others : Operands) (cond test : Option Condition)
    (unit other : Option FunctionalUnit)
    → operands ≡ others → cond ≡ test → unit ≡ other
    → (h : form_fault op operands cond unit ≡ None) (k : form_fault op others test other ≡ None)
    → made op operands cond unit h ≡ made op others test other k
same_operands op operands others cond test unit other p c e h =
    subst (λ (q : Operands). (k : form_fault op q test other ≡ None)
    → made op operands cond unit h ≡ made op q test other k) p
    (λ k. same_condition op operands cond test unit other c e h k)

-- equal in each part
pub same_parts : (a b : Insn) → a.op ≡ b.op → a.operands ≡ b.operands → a.cond ≡ b.cond → a.unit ≡ b.unit → a ≡ b
same_parts a b o p c e =
    subst (λ (q : Op). (k : form_fault q b.operands b.cond b.unit ≡ None) → a ≡ made q b.operands b.cond b.unit k) o
    (λ k. same_operands a.op a.operands b.operands a.cond b.cond a.unit b.unit p c e a.well_formed k)
    b.well_formed
