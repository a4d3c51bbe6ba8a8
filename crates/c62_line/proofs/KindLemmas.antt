-- More than eight tokens are no operands, and a condition begins with a bracket.
use Rattle.c62_line.proofs.Common.{◌≡◌, ℕ, ◌+◌, ◌≤◌, ◌<◌, Bool, false, List, length, Option, Some, None, Err, cond}
use Rattle.c62_line.proofs.Common.{arith, length-map}
use Rattle.c62_line.proofs.Common.{BadOperand, Kind, Address, Mnemonic, WrittenUnit, Word, kinds_of, target_of}
use Rattle.c62_op.specs.declared.register.Cond.{Cond as Condition}
use Rattle.c62_line.specs.Operand.{address_front, operands_of, with_offset}
use Rattle.c62_token.specs.Kind.{first_is_open, kind_of, read_in}
use Rattle.c62_line.specs.Line.{behind_unit, condition_of, pause_of}
use Rattle.c62_op.specs.declared.set.InstructionSet.{InstructionSet}

-- of so many tokens all but five are left behind an address
abbrev Leaves : ℕ → Option (Address × List Kind) → Type 0
Leaves n None = Unit {0}
Leaves n (Some (address, rest)) = n ≤ length rest + 5

address_leaves : (isa : InstructionSet) (kinds : List Kind) → Leaves (length kinds) (address_front isa kinds)
unfolding address_front with_offset
address_leaves isa kinds = grind arith

too_many : (isa : InstructionSet) (store : Bool) (kinds : List Kind) → 8 < length kinds
    → operands_of isa store kinds ≡ None
unfolding operands_of
too_many isa store kinds many = grind (arith, address_leaves isa)

pub too_many_behind : (isa : InstructionSet) (mnemonic : Mnemonic) (cond : Option Condition)
    (written : Option WrittenUnit) (words : List Word)
    → target_of mnemonic words ≡ None → 8 < length words → behind_unit isa mnemonic cond written words ≡ Err BadOperand
unfolding behind_unit pause_of
too_many_behind isa mnemonic cond written words none many =
    grind (arith, length-map words kind_of, length-map (kinds_of words) (read_in isa), too_many isa)

-- ---- a condition begins with a bracket

pub no_bracket : (words : List Word) → first_is_open words ≡ false → condition_of (kinds_of words) ≡ Some (None, 0)
unfolding kind_of condition_of
no_bracket words is = grind arith
