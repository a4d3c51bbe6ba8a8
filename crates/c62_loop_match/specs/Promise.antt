-- Accesses of which it is promised that they never touch one byte in two iterations.
use Rattle.std.specs.Prelude.{Bool, false, not, ◌&&◌, Option, Some, None}
use Rattle.c62_op.specs.declared.register.Reg.{Reg}
use Rattle.c62_op.specs.declared.operands.Operands.{Operands}
use Rattle.c62_op.specs.declared.operands.Operands.TheVariants.{Access}
use Rattle.c62_op.specs.Takes.{same_reg}
use Rattle.c62_insn.specs.declared.insn.Insn.{Insn}
use Rattle.c62_insn.specs.Insn.{operands_of}
use Rattle.c62_pair.specs.declared.reg_set.RegSet.{RegSet}
use Rattle.c62_pair.specs.RegSet.{reg_in}
use Rattle.c62_loop_match.specs.declared.promise.Promise.{Promise}

-- the base of a load or store
abbrev pub base_in : Operands → Option Reg
base_in (Access _ base _ _) = Some base
base_in operands = None

-- both are named, and are two
abbrev pub bases_apart : RegSet → Option Reg → Option Reg → Bool
bases_apart bases (Some one) (Some other) = reg_in bases one && (reg_in bases other && not (same_reg one other))
bases_apart bases _ _ = false

abbrev pub promises : Promise → Insn → Insn → Bool
promises promise first second = bases_apart promise.bases (base_in (operands_of first)) (base_in (operands_of second))
