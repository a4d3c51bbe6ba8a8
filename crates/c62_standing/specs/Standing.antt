-- What is shown of packets as they stand (docs/SHOW.md, "Packets as they stand").
use Rattle.std.specs.Prelude.{◌≡◌, List, [], Option, Some, None}
use Rattle.c62_read.specs.Block.{Serial}
use Rattle.c62_packet.specs.declared.placed.Placed.{Placed}
use Rattle.c62_packet.specs.Packed.{Packed, IsPacketBlock}
use Rattle.c62_depend.specs.Plan.{insns_of}
use Rattle.c62_show.specs.declared.limits.Limits.{Limits}
use Rattle.c62_show.specs.declared.shown.Shown.{Shown}
use Rattle.c62_show.specs.Limits.{ArePlainLimits}
use Rattle.c62_why.specs.Why.{TellsWhys, critical_from}
use Rattle.c62_show.specs.Laws.{IsNoShorter}
use Rattle.c62_check.specs.Schedule.{IsSchedule}
use Rattle.c62_show.specs.Registers.{TellsLives}
use Rattle.c62_standing.specs.declared.standing.Details.{Details}
use Rattle.c62_unpack.specs.Unpacked.{IsUnpacked}

-- No packets that `check` calls the same as the block take fewer cycles than the bound that is told, nor than what is shown where
-- the head says that no schedule is shorter.
abbrev pub NoneIsShorter : Serial → Shown → Type 0
NoneIsShorter block shown = (other : Packed) → IsPacketBlock other → IsSchedule block other → IsNoShorter shown other.cycles

-- What is told of packets is told of a block of which they are a schedule.
pub record IsToldOf (details : Details) (packed : Packed) (shown : Shown) (limits : Limits) : Type 0 where
  pub block : Serial
  pub placed : List Placed
  pub unpacked : IsUnpacked packed block placed
  pub known : ArePlainLimits block limits
  pub whys : TellsWhys details.why (insns_of block) packed.cycles placed shown.whys.items
  pub critical : shown.critical.items ≡ critical_from (insns_of block) packed.cycles 0 placed
  pub bounded : NoneIsShorter block shown

-- where no such block is known, nothing is told
abbrev pub IsTold : Details → Packed → Shown → Option Limits → Type 0
IsTold details packed shown None = (shown.whys.items ≡ []) × (shown.critical.items ≡ [])
IsTold details packed shown (Some limits) = IsToldOf details packed shown limits

-- these packets, and what is told of them
pub record IsStanding (details : Details) (packed : Packed) (shown : Shown) : Type 0 where
  pub packets : shown.packets ≡ packed
  pub told : IsTold details packed shown shown.limits
  pub lives : TellsLives details.registers packed shown.lives
