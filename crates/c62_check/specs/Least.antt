-- How long packets that are a schedule of a block are at least (docs/SCHEDULING.md, "Needs" and "Raised heights").
use Rattle.std.specs.Prelude.{◌≡◌, ℕ, List, map, All, Some, true, slice_get, IsTrue}
use Rattle.c62_read.specs.Block.{Serial, is_block}
use Rattle.c62_packet.specs.declared.placed.Placed.{Placed}
use Rattle.c62_packet.specs.Packed.{Packed, IsPacketBlock}
use Rattle.c62_depend.specs.Plan.{insns_of}
use Rattle.c62_sheet.specs.declared.entry.Spot.{Spot}
use Rattle.c62_sheet.specs.Lawful.{Spots}
use Rattle.c62_raised.specs.Laws.{IsSeatedAcross, IsLongEnough}
use Rattle.c62_check.specs.Schedule.{IsSchedule}
use Rattle.c62_check.specs.Checked.{IsChecked}

abbrev pub spot_of : Placed → Spot
spot_of p = record { cycle = p.cycle; unit = p.unit }

-- where these stand, each under its number
abbrev pub spots_of : List Placed → Spots
spots_of numbered = map (λ p. Some (spot_of p)) numbered

-- In packets that are a schedule of a block each of its instructions has a cycle and a unit that takes it, and no two go over one
-- cross path in a cycle.
abbrev pub PacketsAreSeated : Serial → Packed → Type 0
PacketsAreSeated block packed =
    (is : IsSchedule block packed) → IsTrue (is_block block.insns) → IsPacketBlock packed → IsSeatedAcross (insns_of block) (spots_of is.numbered) packed.cycles

-- so they take no fewer cycles than the block's critical path, than each need has, and than its raised bound
abbrev pub NoPacketsAreShorter : Serial → Packed → Type 0
NoPacketsAreShorter block packed = IsSchedule block packed → IsTrue (is_block block.insns) → IsPacketBlock packed → IsLongEnough (insns_of block) packed.cycles

-- so does each block of packets that are checked to be the same as a program
abbrev pub NoCheckedAreShorter : List Serial → List Packed → List ℕ → Type 0
NoCheckedAreShorter program packets text =
    All (λ block. IsTrue (is_block block.insns)) program → All IsPacketBlock packets → IsChecked program packets text true
    → (number : ℕ) (block : Serial) (packed : Packed) → slice_get program number ≡ Some block → slice_get packets number ≡ Some packed
    → IsLongEnough (insns_of block) packed.cycles
