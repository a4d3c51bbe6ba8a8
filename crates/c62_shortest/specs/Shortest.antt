-- The shortest schedule of a block that was found (docs/SCHEDULING.md, "Shorter by lists", "Search" and "Either side").
use Rattle.std.specs.Prelude.{ℕ, ◌≤◌, map, Some}
use Rattle.c62_read.specs.Block.{Serial}
use Rattle.c62_depend.specs.Plan.{insns_of}
use Rattle.c62_sheet.specs.Least.{IsComplete}
use Rattle.c62_meaning.specs.Laws.{AreSerial}
use Rattle.c62_pipe.specs.Chain.{IsBlockPacked}
use Rattle.c62_pack.specs.EitherSide.{IsLawfulOnEitherSide}
use Rattle.c62_pack.specs.Packets.{ArePackets}
use Rattle.c62_refute.specs.Window.{TakesAtLeast}
use Rattle.c62_shortest.specs.declared.schedule.Schedule.{Schedule}
use Rattle.c62_shortest.specs.declared.searched.Shortest.{Shortest as Found}

-- The spots are a set in which each instruction of the block is placed, lawful but that a branch to a block may stand on either side,
-- and the packets are theirs. Run as packets, they do what the block does serially.
pub record IsScheduleOf (block : Serial) (schedule : Schedule) : Type 0 where
  pub lawful : IsLawfulOnEitherSide (insns_of block) (map Some schedule.spots.items)
  pub complete : IsComplete (insns_of block) (map Some schedule.spots.items)
  pub packets : ArePackets block (map Some schedule.spots.items) schedule.packets
  pub serial : AreSerial block.insns schedule.packets.placed
  pub keeps : IsBlockPacked block schedule.packets

-- it takes at most so many cycles, and each schedule takes at least as many as are told
pub record IsShortest (block : Serial) (most : ℕ) (found : Found) : Type 0 where
  pub is : IsScheduleOf block found.schedule
  pub no_longer : found.schedule.packets.cycles ≤ most
  pub least : TakesAtLeast (insns_of block) found.least
