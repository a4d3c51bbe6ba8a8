-- Which registers are live in the cycles of a schedule (docs/SHOW.md, "Registers"; SPRU189, "Delay Slots").
use Rattle.std.specs.Prelude.{◌≡◌, ℕ, zero, suc, ◌+◌, ◌-◌, ◌==◌, Bool, false, not, ◌&&◌, ◌||◌, is_some, List, length, Some, slice_get}
use Rattle.std.specs.List.{list_any}
use Rattle.c62_op.specs.declared.register.Side.{Side}
use Rattle.c62_op.specs.declared.register.Reg.{Reg}
use Rattle.c62_op.specs.Takes.{same_reg}
use Rattle.c62_insn.specs.declared.insn.Insn.{Insn}
use Rattle.c62_insn.specs.Insn.{cond_of, register_writes, reads_register}
use Rattle.c62_packet.specs.declared.placed.Placed.{Placed}
use Rattle.c62_live.specs.declared.live.Tracked.{Tracked}

-- an instruction reads the register, as an operand or its condition, in the cycle of its issue
abbrev pub reads_at : Reg → ℕ → Placed → Bool
reads_at reg cycle p = (p.cycle == cycle) && reads_register p.insn reg

abbrev pub is_read : List Placed → Reg → ℕ → Bool
is_read placed reg cycle = list_any (reads_at reg cycle) placed

-- a write lands in the cycle of the issue plus its delay
abbrev pub lands_at : Placed → Reg → ℕ → Reg × ℕ → Bool
lands_at p reg cycle write = same_reg write.0 reg && (p.cycle + write.1 == cycle)

-- an instruction that runs under no condition has a write that lands then
abbrev pub ends_at : Reg → ℕ → Placed → Bool
ends_at reg cycle p = not (is_some (cond_of p.insn)) && list_any (lands_at p reg cycle) (register_writes p.insn)

-- what the register holds is gone when the cycle is over, whatever conditions hold
abbrev pub is_ended : List Placed → Reg → ℕ → Bool
is_ended placed reg cycle = list_any (ends_at reg cycle) placed

-- Live in a cycle is what is read in it, and what is live in the next cycle and not gone when this one is over.
abbrev pub lives_on : List Placed → Reg → ℕ → Bool → Bool
lives_on placed reg cycle live = is_read placed reg cycle || (live && not (is_ended placed reg cycle))

-- so many cycles before the end of a block, behind which none is known to be live
abbrev pub live_before : List Placed → Reg → (cycles left : ℕ) → Bool
live_before placed reg cycles zero = false
live_before placed reg cycles (suc left) = lives_on placed reg (cycles - suc left) (live_before placed reg cycles left)

abbrev pub is_live : List Placed → Reg → (cycles cycle : ℕ) → Bool
is_live placed reg cycles cycle = live_before placed reg cycles (cycles - cycle)

-- a register by itself and in the cycle before
abbrev pub dead : Reg → Tracked
dead reg = record { reg = reg; live = false }

abbrev pub earlier : List Placed → ℕ → Tracked → Tracked
earlier placed cycle tracked = record { reg = tracked.reg; live = lives_on placed tracked.reg cycle tracked.live }

-- ---- what is used

abbrev pub writes_register : Insn → Reg → Bool
writes_register insn reg = list_any (λ write. same_reg write.0 reg) (register_writes insn)

abbrev pub is_used_by : Reg → Placed → Bool
is_used_by reg p = reads_register p.insn reg || writes_register p.insn reg

-- an instruction reads or writes the register
abbrev pub is_used : List Placed → Reg → Bool
is_used placed reg = list_any (is_used_by reg) placed

-- the sixteen registers of a side, by their numbers
pub record AreRegisters (side : Side) (regs : List Reg) : Type 0 where
  pub count : length regs ≡ 16
  pub each : (k : ℕ) (reg : Reg) → slice_get regs k ≡ Some reg → (reg.side ≡ side) × (reg.number ≡ k)
