-- The writes of an instruction, by their delays.
use Rattle.std.specs.Prelude.{ℕ, Bool, ◌&&◌, ◌==◌}
use Rattle.std.specs.List.{list_any}
use Rattle.c62_op.specs.declared.register.Reg.{Reg}
use Rattle.c62_insn.specs.declared.insn.Insn.{Insn}
use Rattle.c62_op.specs.Takes.{same_reg}
use Rattle.c62_insn.specs.Insn.{register_writes}

-- whether a write is one of the register with this delay
abbrev pub is_write_with : ℕ → Reg → Reg × ℕ → Bool
is_write_with delay reg write = same_reg write.0 reg && (write.1 == delay)

-- whether the instruction writes the register with this delay
abbrev pub writes_with : Insn → ℕ → Reg → Bool
writes_with insn delay reg = list_any (is_write_with delay reg) (register_writes insn)
