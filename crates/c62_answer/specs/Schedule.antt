-- How the blocks of a program become packets (docs/SCHEDULING.md, "Turns", "Finishing" and "Two workers").
use Rattle.std.specs.Prelude.{◌≡◌, ◌≢◌, ℕ, ◌≤◌, Bool, true, false, List, [], ◌∷◌, ◌++◌}
use Rattle.std.specs.Option.{IsSomeAnd}
use Rattle.c62_read.specs.Block.{Serial}
use Rattle.c62_depend.specs.Plan.{insns_of}
use Rattle.c62_sheet.specs.Lawful.{Spots}
use Rattle.c62_sheet.specs.Least.{IsComplete}
use Rattle.c62_sheet.specs.Counts.{set_length}
use Rattle.c62_board.specs.declared.turn.Turn.{Turn}
use Rattle.c62_board.specs.declared.turn.Turn.TheVariants.{Memory}
use Rattle.c62_board.specs.State.{BoardState, Has, IsSound}
use Rattle.c62_work.specs.Turns.{TakesTurns}
use Rattle.c62_work.specs.Finish.{IsFinished}
use Rattle.c62_packet.specs.declared.placed.Placed.{Placed}
use Rattle.c62_packet.specs.Packed.{Packed}
use Rattle.c62_meaning.specs.Laws.{AreSerial}
use Rattle.c62_pipe.specs.Chain.{IsBlockPacked}
use Rattle.c62_pack.specs.EitherSide.{IsLawfulOnEitherSide}
use Rattle.c62_pack.specs.Packets.{ArePackets, ArePlaced}
use Rattle.c62_show.specs.declared.shown.Shown.{Shown}
use Rattle.c62_show.specs.declared.limits.Limits.{Limits}
use Rattle.c62_show.specs.Limits.{AreLimits, ArePlainLimits}
use Rattle.c62_show.specs.Registers.{TellsLives}
use Rattle.c62_why.specs.Why.{TellsWhys, critical_from}
use Rattle.c62_command.specs.declared.command.Packing.{Packing}
use Rattle.c62_command.specs.declared.command.Showing.{Showing}

-- Both sides took steps by turns on an empty board of the block with this budget, and what was missing then was placed.
pub record IsTurned (block : Serial) (budget : ℕ) (board : BoardState) : Type 0 where
  pub empty : BoardState
  pub begin : Has block [] budget empty
  pub last : Turn
  pub enough : last ≢ Memory
  pub turned : BoardState
  pub turns : TakesTurns empty last turned
  pub finished : IsFinished turned block board

-- A complete lawful board of the block. By turns it is the one that they lead to, and otherwise it may be any.
pub record IsMade (packing : Packing) (block : Serial) (board : BoardState) : Type 0 where
  pub plan_is : board.plan ≡ block
  pub complete : IsComplete (insns_of block) board.spots
  pub sound : IsSound board
  pub turned : packing.turns ≡ true → IsTurned block packing.budget board

-- Where the instructions of a block stand, of which a board has these spots: there. Where the shortest schedule is asked for, on the
-- spots of any set that places all and takes no more cycles, lawful but that a branch to a block may stand on either side.
abbrev pub MayStand : (shortest : Bool) → Serial → Spots → Spots → Type 0
MayStand false block own spots = spots ≡ own
MayStand true block own spots =
    IsLawfulOnEitherSide (insns_of block) spots × IsComplete (insns_of block) spots × (set_length (insns_of block) spots ≤ set_length (insns_of block) own)

-- The packets of such spots. Run as packets, they do what the block does serially.
pub record ArePacketsFrom (packing : Packing) (block : Serial) (own : Spots) (packed : Packed) : Type 0 where
  pub spots : Spots
  pub stand : MayStand packing.shortest block own spots
  pub packets : ArePackets block spots packed
  pub serial : AreSerial block.insns packed.placed
  pub keeps : IsBlockPacked block packed

-- such packets of a board that was made for the block
pub record IsScheduled (packing : Packing) (block : Serial) (packed : Packed) : Type 0 where
  pub board : BoardState
  pub made : IsMade packing block board
  pub spots : Spots
  pub stand : MayStand packing.shortest block board.spots spots
  pub packets : ArePackets block spots packed
  pub serial : AreSerial block.insns packed.placed
  pub keeps : IsBlockPacked block packed

-- such packets stand behind the others
abbrev pub AddsPackets : Packing → Serial → Spots → List Packed → List Packed → Type 0
AddsPackets packing block own old new = (packed : Packed) × ArePacketsFrom packing block own packed × (new ≡ old ++ packed ∷ [])

-- block by block
abbrev pub AreScheduled : Packing → List Serial → List Packed → Type 0
AreScheduled packing [] [] = Unit {0}
AreScheduled packing (block ∷ blocks) (packed ∷ packets) = IsScheduled packing block packed × AreScheduled packing blocks packets
AreScheduled packing _ _ = ⊥

-- ---- what is shown

-- Why each instruction that stands on these spots isn't issued a cycle earlier, where that is asked for, and which are critical.
pub record AreTold (why : Bool) (block : Serial) (spots : Spots) (shown : Shown) : Type 0 where
  pub placed : List Placed
  pub are : ArePlaced block spots placed
  pub whys : TellsWhys why (insns_of block) shown.packets.cycles placed shown.whys.items
  pub critical : shown.critical.items ≡ critical_from (insns_of block) shown.packets.cycles 0 placed

-- how short packets could be at best; where the shortest schedule is asked for, a search may tell more
abbrev pub TellsLimits : (shortest : Bool) → Serial → Limits → Type 0
TellsLimits false block limits = ArePlainLimits block limits
TellsLimits true block limits = AreLimits block limits

-- The packets of such a board, how short they could be at best, why their instructions stand where they do, and their registers.
pub record IsShown (showing : Showing) (block : Serial) (shown : Shown) : Type 0 where
  pub scheduled : IsScheduled showing.packing block shown.packets
  pub limits : IsSomeAnd shown.limits (TellsLimits showing.packing.shortest block)
  pub told : AreTold showing.why block scheduled.spots shown
  pub lives : TellsLives showing.registers shown.packets shown.lives

-- what is shown of packets of which a board has these spots
pub record IsShownOf (showing : Showing) (block : Serial) (own : Spots) (shown : Shown) : Type 0 where
  pub from : ArePacketsFrom showing.packing block own shown.packets
  pub limits : IsSomeAnd shown.limits (TellsLimits showing.packing.shortest block)
  pub told : AreTold showing.why block from.spots shown
  pub lives : TellsLives showing.registers shown.packets shown.lives

-- block by block
abbrev pub AreShown : Showing → List Serial → List Shown → Type 0
AreShown showing [] [] = Unit {0}
AreShown showing (block ∷ blocks) (shown ∷ rest) = IsShown showing block shown × AreShown showing blocks rest
AreShown showing _ _ = ⊥
