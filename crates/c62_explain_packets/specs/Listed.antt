-- What is found of a text that is no listing (docs/FAULTS.md, "Packets").
use Rattle.std.specs.Prelude.{◌≡◌, ℕ, false, List, [], Option, Some, None}
use Rattle.c62_packet.specs.Packed.{Packed}
use Rattle.c62_listing_reader.specs.declared.fault.ListFault.{ListFault}
use Rattle.c62_listing_reader.specs.declared.fault.ListFault.TheVariants as list
use Rattle.c62_adopt.specs.declared.fault.AdoptFault.{AdoptFault}
use Rattle.c62_adopt.specs.Answer.{IsAdopted, Refuses}
use Rattle.c62_adopt.specs.FaultText.{adopt_fault_text}
use Rattle.c62_explain_packets.specs.Finding.{IsToldAs, found_at}
use Rattle.c62_explain_packets.specs.Warned.{TellsFault}
use Rattle.c62_explain_packets.specs.declared.finding.Finding.{Finding as Found}
use Rattle.c62_explain_packets.specs.declared.finding.What.TheVariants as what
use Rattle.c62_op.specs.declared.set.InstructionSet.{InstructionSet}

-- of a block it is what keeps the text from being adopted as packets
abbrev pub IsFoundInBlock : InstructionSet → List ℕ → Option Found → Type 0
IsFoundInBlock isa text None = (packets : List Packed) × (added : ℕ) × IsAdopted isa false text packets added
IsFoundInBlock isa text (Some found) = (fault : AdoptFault) × Refuses isa false text fault × IsToldAs (adopt_fault_text fault) found

-- of a line it is what the listing is refused for: that line and the fault
abbrev pub IsFoundListed : InstructionSet → List ℕ → ListFault → Option Found → Type 0
IsFoundListed isa text (list.Read fault) found = found ≡ Some (found_at fault.line (what.Read fault.cause))
IsFoundListed isa text (list.Shape line) found = found ≡ Some (found_at line what.Shape)
IsFoundListed isa text fault found = IsFoundInBlock isa text found

-- a line tells what is found
abbrev pub TellsFound : InstructionSet → (name text : List ℕ) → Option Found → List ℕ → Type 0
TellsFound isa name text None lines = lines ≡ []
TellsFound isa name text (Some found) lines = TellsFault isa name text found lines
