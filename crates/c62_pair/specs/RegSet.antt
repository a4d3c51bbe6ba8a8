-- Sets of registers.
use Rattle.std.specs.Prelude.{Bool, not, ◌==◌, bit_and}
use Rattle.std.specs.Int.{bit_at}
use Rattle.c62_op.specs.declared.register.Reg.{Reg}
use Rattle.c62_op.specs.Register.{register_index}
use Rattle.c62_pair.specs.declared.reg_set.RegSet.{RegSet}

-- whether the register is in the set
abbrev pub reg_in : RegSet → Reg → Bool
reg_in set reg = bit_at set.bits (register_index reg) == 1

-- whether some register is in both sets
abbrev pub shares : RegSet → RegSet → Bool
shares a b = not (bit_and a.bits b.bits == 0)
