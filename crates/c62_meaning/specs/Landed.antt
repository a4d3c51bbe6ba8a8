-- No two executed writes of one register land in one cycle, so that the one of greatest landing cycle is one write
-- (docs/MACHINE.md, "Packet rules" and "Cycles and delays").
use Rattle.std.specs.Prelude.{◌≡◌, ℕ, ◌+◌, List, Contains, Some, slice_get}
use Rattle.c62_op.specs.declared.register.Reg.{Reg}
use Rattle.c62_rules.specs.PacketRules.{HasOneLanding}
use Rattle.c62_serial.specs.State.{Machine}
use Rattle.c62_packet.specs.declared.placed.Placed.{Placed}
use Rattle.c62_packet.specs.Packed.{issued}
use Rattle.c62_meaning.specs.Packet.{Did, IsRun}

-- a write of the register that the instruction made lands in this cycle
pub record HasLanded (did : Did) (p : Placed) (reg : Reg) (cycle : ℕ) : Type 0 where
  pub delay : ℕ
  pub value : ℕ
  pub writes : Contains (did p).writes ((reg, delay), value)
  pub lands : p.cycle + delay ≡ cycle

-- of each register and cycle the writes of at most one instruction land
abbrev pub LandOneByOne : List Placed → Did → Type 0
LandOneByOne block did =
    (i j : ℕ) (p q : Placed) (reg : Reg) (cycle : ℕ) → slice_get block i ≡ Some p → slice_get block j ≡ Some q → HasLanded did p reg cycle
    → HasLanded did q reg cycle → i ≡ j

-- so it is in the run of packets that keep the rule
abbrev pub RunsLandOneByOne : List Placed → Machine → Type 0
RunsLandOneByOne block opening = (did : Did) → HasOneLanding (issued block) → IsRun block opening did → LandOneByOne block did
