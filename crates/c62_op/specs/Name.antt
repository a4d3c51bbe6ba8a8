-- The name of a register (docs/MACHINE.md, "Registers"; SPRU189, "General-Purpose Register Files").
use Rattle.std.specs.Prelude.{ℕ, List, ◌++◌, codes, decimal}
use Rattle.c62_op.specs.declared.register.Side.{Side}
use Rattle.c62_op.specs.declared.register.Side.TheVariants.{A, B}
use Rattle.c62_op.specs.declared.register.Reg.{Reg}

-- the letter of a register file
abbrev pub file_letter : Side → List ℕ
file_letter A = codes "A"
file_letter B = codes "B"

-- `A4`
abbrev pub register_name : Reg → List ℕ
register_name reg = file_letter reg.side ++ decimal reg.number
