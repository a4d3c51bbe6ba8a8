use Rattle.c62_pair.proofs.Common.{arith, ◌≡◌, ℕ, ℤ, ◌*◌, ◌≤◌, sym, ap, ◌∙◌, op_of, operands_of, Insn, Reg, Operands}
use Rattle.c62_pair.proofs.Common.{Access}
use Rattle.std.specs.Prelude.{unsigned_abs, FitsSigned}
use Rattle.std.proofs.Common.{rules, w64, to_z, of_z}
use Rattle.std.proofs.Math.Facts.{to_z-of_z}
use Rattle.c62_op.specs.declared.operands.AddressForm.{AddressForm}
use Rattle.c62_op.specs.declared.operands.Offset.{Offset}
use Rattle.c62_op.specs.declared.operands.Offset.TheVariants.{Constant as ByConstant}
use Rattle.c62_op.specs.Meaning.{size_of}
use Rattle.c62_rules.proofs.Ranges.{reaches}
use Rattle.c62_pair.proofs.covered.Covered.by.Goals as goal

-- the offset in bytes
near : (insn : Insn) (operands : Operands) (register base : Reg) (form : AddressForm) (offset : Offset) (k : ℤ)
    (m n : ℕ)
    → operands ≡ operands_of insn → operands ≡ Access register base form offset → offset ≡ ByConstant k
    → FitsSigned w64 k
    → m ≡ unsigned_abs (to_z w64 (of_z w64 k)) → n ≡ size_of (op_of insn) → m * n ≤ 131068
near insn operands register base form offset k m n of_insn is constant fits m_is n_is =
    let e : operands_of insn ≡ Access register base form (ByConstant k)
    = sym of_insn ∙ is ∙ ap (λ (o : Offset). Access register base form o) constant in
    rw (m_is, to_z-of_z fits, n_is) (reaches insn register base form k e).0

pub begin_of-begin-requires : goal.begin_of-begin-requires
begin_of-begin-requires c =
    let w = c.in-Access-default-default-default-Constant in
    let fits : FitsSigned w64 w.k = search rules in
    near c.args.insn c.operands.result w.register w.base w.form w.offset w.k c.unsigned_abs.result c.from.result
    c.operands.ensures w.is w.offset-is fits
    c.unsigned_abs.ensures.value (c.from.ensures ∙ c.size-size.ensures ∙ ap size_of c.op.ensures)

pub overflow_mul-unsigned_abs : goal.overflow_mul-unsigned_abs
overflow_mul-unsigned_abs c =
    let w = c.in-Access-default-default-default-Constant in
    let fits : FitsSigned w64 w.k = search rules in
    let here = near c.args.insn c.operands.result w.register w.base w.form w.offset w.k c.unsigned_abs.result
    c.from.result c.operands.ensures w.is w.offset-is fits
    c.unsigned_abs.ensures.value (c.from.ensures ∙ c.size-size.ensures ∙ ap size_of c.op.ensures) in
    omega (arith, here)

pub overflow_cast-unsigned_abs : goal.overflow_cast-unsigned_abs
overflow_cast-unsigned_abs c =
    let w = c.in-Access-default-default-default-Constant in
    let fits : FitsSigned w64 w.k = search rules in
    let here = near c.args.insn c.operands.result w.register w.base w.form w.offset w.k c.unsigned_abs.result
    c.from.result c.operands.ensures w.is w.offset-is fits
    c.unsigned_abs.ensures.value (c.from.ensures ∙ c.size-size.ensures ∙ ap size_of c.op.ensures) in
    omega (arith, here)
