-- What an instruction does where registers have these words and memory these bytes (docs/MACHINE.md, "Conditions",
-- "Reads and writes" and "Memory"). Neither cycles nor delays stand here, so that serial blocks and packets cite one text.
use Rattle.std.specs.Prelude.{ℕ, Bool, false, not, List, [], ◌++◌, map, Option, Some, None, is_some, option_map, if◌then◌else◌}
use Rattle.std.specs.List.{zip}
use Rattle.std.specs.Option.{option_to_list}
use Rattle.c62_op.specs.declared.register.Reg.{Reg}
use Rattle.c62_op.specs.declared.operands.Op.{Op}
use Rattle.c62_insn.specs.declared.effect.Access.{Access as MemoryAccess}
use Rattle.c62_insn.specs.declared.effect.Target.{Target}
use Rattle.c62_insn.specs.declared.insn.Insn.{Insn}
use Rattle.c62_insn.specs.Insn.{op_of, operands_of, cond_of, operand_reads, register_writes}
use Rattle.c62_op.specs.Meaning.{loaded_of}
use Rattle.c62_insn.specs.Effect.{runs_of, values_of, access_of, target_of}
use Rattle.c62_serial.specs.Memory.{is_good, read, placed_from}

-- the writes as pairs of register and delay with a value each, the access by its place in memory, and the branch
pub record Act : Type 0 where
  pub writes : List ((Reg × ℕ) × ℕ)
  pub access : Option MemoryAccess
  pub target : Option Target

abbrev pub no_act : Act
no_act = record { writes = []; access = None; target = None }

abbrev pub runs : (Reg → ℕ) → Insn → Bool
runs word insn = runs_of (cond_of insn) (option_map (λ cond. word cond.reg) (cond_of insn))

abbrev pub operand_values : (Reg → ℕ) → Insn → List ℕ
operand_values word insn = map word (operand_reads insn)

-- what a load writes of what it read: 0 where its access faults
abbrev pub extended : Op → Option ℕ → ℕ
extended op None = 0
extended op (Some raw) = loaded_of op raw

-- the value of a load's destination
abbrev pub loaded : (ℕ → ℕ) → Op → Option MemoryAccess → Option ℕ
loaded byte op None = None
loaded byte op (Some access) = if is_some access.value then None else Some (extended op (read byte access.address access.size))

-- what an instruction that runs does, of the values of its operands, where memory begins at a base: a base register is
-- written before a load's destination
abbrev pub act_on : Insn → ℕ → List ℕ → (ℕ → ℕ) → Act
act_on insn base reads byte = let access = placed_from base (access_of (op_of insn) (operands_of insn) reads) in record {
  writes = zip (register_writes insn) (values_of (op_of insn) (operands_of insn) reads ++ option_to_list (loaded byte (op_of insn) access));
  access = access;
  target = target_of (operands_of insn) reads;
}

-- what an instruction does; nothing where its condition does not hold
abbrev pub act_of : Insn → ℕ → (Reg → ℕ) → (ℕ → ℕ) → Act
act_of insn base word byte = if runs word insn then act_on insn base (operand_values word insn) byte else no_act

-- the access is misaligned or reaches past the end of memory
abbrev pub is_fault : Option MemoryAccess → Bool
is_fault None = false
is_fault (Some access) = not (is_good access.address access.size)
