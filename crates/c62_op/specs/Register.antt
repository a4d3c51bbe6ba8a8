-- The 32 registers in one row (docs/MACHINE.md, "Register files and units"; SPRU189, "Register Files").
use Rattle.std.specs.Prelude.{ℕ, ◌+◌}
use Rattle.c62_op.specs.declared.register.Side.{Side}
use Rattle.c62_op.specs.declared.register.Side.TheVariants.{A, B}
use Rattle.c62_op.specs.declared.register.Reg.{Reg}

-- the index of the first register of a file
abbrev pub first_of : Side → ℕ
first_of A = 0
first_of B = 16

-- the index of a register in A0 to A15, B0 to B15
abbrev pub register_index : Reg → ℕ
register_index reg = first_of reg.side + reg.number
