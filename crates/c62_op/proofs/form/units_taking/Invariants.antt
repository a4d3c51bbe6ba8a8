use Rattle.std.proofs.Common.{◌≡◌, ◌==◌, take}
use Rattle.std.specs.List.{list_any}
use Rattle.std.specs.Int.{bit_at}
use Rattle.c62_op.specs.declared.register.Unit.{Unit as FunctionalUnit}
use Rattle.c62_op.specs.Units.{index_of}
use Rattle.c62_op.specs.Takes.{takes_by}
use Rattle.c62_op.proofs.form.units_taking.Given as goal

abbrev pub invariant-loop-form : goal.invariant-loop-form
invariant-loop-form l =
    (unit : FunctionalUnit)
    → (bit_at l.units (index_of unit) == 1) ≡ list_any (λ form. takes_by form l.operands unit)
    (take l.form-index l.form-items)
