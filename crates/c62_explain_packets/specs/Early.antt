-- Reads in delay slots: an instruction that reads a register while a write of it is in flight (docs/FAULTS.md, "Reads in delay slots"; SPRU189,
-- "Delay Slots").
use Rattle.std.specs.Prelude.{ℕ, ◌+◌, ◌-◌, Bool, ◌&&◌, nat_lt, List, map}
use Rattle.std.specs.List.{filter, flat_map}
use Rattle.c62_op.specs.declared.register.Reg.{Reg}
use Rattle.c62_op.specs.Shape.{is_load}
use Rattle.c62_insn.specs.Insn.{op_of, reads_register, register_writes}
use Rattle.c62_adopt_cut.specs.declared.draft.Issue.{Issue}
use Rattle.c62_explain_packets.specs.declared.early.EarlyRead.{EarlyRead}

-- the cycle from which on a write of this delay can be read
abbrev pub landed : Issue → ℕ → ℕ
landed writer delay = writer.cycle + delay + 1

-- The write was issued before, it can't be read yet in the reader's cycle, and the reader reads its register, be it in the condition.
abbrev pub is_early : Issue → Issue → Reg × ℕ → Bool
is_early reader writer write =
    nat_lt writer.cycle reader.cycle && (nat_lt reader.cycle (landed writer write.1) && reads_register reader.insn write.0)

abbrev pub read_early : Issue → Issue → Reg × ℕ → EarlyRead
read_early reader writer write =
    record { line = reader.line; register = write.0; writer = writer.line; loads = is_load (op_of writer.insn); missing = landed writer write.1 - reader.cycle }

-- the reads of one instruction, of what another writes
abbrev pub early_by : Issue → Issue → List EarlyRead
early_by reader writer = map (read_early reader writer) (filter (is_early reader writer) (register_writes writer.insn))

-- the reads of one instruction
abbrev pub early_of : List Issue → Issue → List EarlyRead
early_of issues reader = flat_map (early_by reader) issues

-- the reads of a block's instructions, in their order
unfoldable pub early_reads : List Issue → List EarlyRead
early_reads issues = flat_map (early_of issues) issues
