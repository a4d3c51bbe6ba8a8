-- Which texts of packets have a fault (docs/FAULTS.md, "Packets").
use Rattle.std.specs.Prelude.{◌≡◌, ◌≢◌, ℕ, Bool, true, false, List, [], ◌++◌, Option}
use Rattle.c62_packet.specs.Packed.{Packed}
use Rattle.c62_listing_reader.specs.declared.fault.ListFault.{ListFault}
use Rattle.c62_listing_reader.specs.declared.fault.ListFault.TheVariants.{Memory as NoStore}
use Rattle.c62_listing_reader.specs.Faults.{IsRead}
use Rattle.c62_listing_reader.specs.Reading.{Refuses as RefusesListing}
use Rattle.c62_adopt.specs.declared.fault.AdoptFault.{AdoptFault}
use Rattle.c62_adopt.specs.declared.fault.AdoptFault.TheVariants.{Memory as NoRoom}
use Rattle.c62_adopt.specs.Answer.{IsAdopted, Refuses}
use Rattle.c62_explain_packets.specs.Listed.{IsFoundListed, TellsFound}
use Rattle.c62_explain_packets.specs.Warned.{TellFaults, TellsRefusal, WarnsText}
use Rattle.c62_explain_packets.specs.declared.finding.Finding.{Finding as Found}
use Rattle.c62_op.specs.declared.set.InstructionSet.{InstructionSet}

-- A text of packets has a fault where it isn't adopted as it stands, and the first line tells that. Other faults may be told behind it. Of one
-- that is adopted the reads in delay slots are told, at most so many.
pub data IsLintedPackets (isa : InstructionSet) (most : ℕ) (name text lines : List ℕ) (faulty : Bool) : Type 0 where
  Adopted : faulty ≡ false → (packets : List Packed) (added : ℕ) → IsAdopted isa false text packets added → WarnsText isa most name text lines
      → IsLintedPackets isa most name text lines faulty
  Refused : faulty ≡ true → (fault : AdoptFault) → fault ≢ NoRoom → Refuses isa false text fault
      → (first behind : List ℕ) → lines ≡ first ++ behind → TellsRefusal isa name text fault first
      → (others : List Found) → TellFaults isa name text others behind → IsLintedPackets isa most name text lines faulty

-- and a listing where it isn't read
pub data IsLintedListing (isa : InstructionSet) (name text lines : List ℕ) (faulty : Bool) : Type 0 where
  Read : faulty ≡ false → (packets : List Packed) → IsRead isa text packets → lines ≡ [] → IsLintedListing isa name text lines faulty
  Unread : faulty ≡ true → (fault : ListFault) → fault ≢ NoStore → RefusesListing isa text fault
      → (found : Option Found) → IsFoundListed isa text fault found
      → (first behind : List ℕ) → lines ≡ first ++ behind → TellsFound isa name text found first
      → (others : List Found) → TellFaults isa name text others behind → IsLintedListing isa name text lines faulty
