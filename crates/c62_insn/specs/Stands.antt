-- The units on which an instruction may stand (docs/MACHINE.md, "Instruction table"; SPRU189, "Mapping Between Instructions
-- and Functional Units").
use Rattle.std.specs.Prelude.{Bool, ◌&&◌}
use Rattle.c62_op.specs.declared.register.Unit.{Unit as FunctionalUnit}
use Rattle.c62_insn.specs.declared.insn.Insn.{Insn}
use Rattle.c62_op.specs.Takes.{takes, is_written}
use Rattle.c62_insn.specs.Insn.{op_of, operands_of, unit_of}

-- an instruction may stand on the units that take it, or on the written one alone
abbrev pub may_stand : Insn → FunctionalUnit → Bool
may_stand insn unit = is_written (unit_of insn) unit && takes (op_of insn) (operands_of insn) unit
