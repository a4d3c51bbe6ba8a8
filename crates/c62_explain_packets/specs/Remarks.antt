-- What is found in packets, with columns (docs/FAULTS.md, "All faults at once" and "Reads in delay slots").
use Rattle.std.specs.Prelude.{◌≡◌, ◌≢◌, ℕ, ◌+◌, All, true, false, List, [], ◌++◌, map, take, Option, Some, None}
use Rattle.std.specs.List.{flat_map}
use Rattle.c62_packet.specs.Packed.{Packed}
use Rattle.c62_listing_reader.specs.declared.fault.ListFault.{ListFault}
use Rattle.c62_listing_reader.specs.declared.fault.ListFault.TheVariants.{Memory as NoStore}
use Rattle.c62_listing_reader.specs.Faults.{IsRead}
use Rattle.c62_listing_reader.specs.Reading.{Refuses as RefusesListing}
use Rattle.c62_adopt_cut.specs.Drafted.{draft_of}
use Rattle.c62_adopt_cut.specs.declared.draft.Draft.{Draft}
use Rattle.c62_adopt.specs.declared.fault.AdoptFault.{AdoptFault}
use Rattle.c62_adopt.specs.declared.fault.AdoptFault.TheVariants.{Memory as NoRoom}
use Rattle.c62_adopt.specs.Answer.{IsAdopted, Refuses, code_cut}
use Rattle.c62_adopt.specs.FaultText.{adopt_fault_text}
use Rattle.c62_place.specs.declared.place.Place.{Place}
use Rattle.c62_explain.specs.Picture.{line_at}
use Rattle.c62_explain.specs.Placed.{column_position}
use Rattle.c62_explain_packets.specs.Sentence.{what_sentence}
use Rattle.c62_explain_packets.specs.Place.{IsFoundAt}
use Rattle.c62_explain_packets.specs.Finding.{IsToldAs, what_name}
use Rattle.c62_explain_packets.specs.Listed.{IsFoundListed}
use Rattle.c62_explain_packets.specs.Warned.{early_among, early_text, editors_place, fault_text}
use Rattle.c62_explain_packets.specs.declared.finding.Finding.{Finding as Found}
use Rattle.c62_explain_packets.specs.declared.remarks.PlacedFinding.{PlacedFinding}
use Rattle.c62_explain_packets.specs.declared.remarks.PlacedRead.{PlacedRead}
use Rattle.c62_explain_packets.specs.declared.remarks.Remarks.{Remarks}
use Rattle.c62_op.specs.declared.set.InstructionSet.{InstructionSet}

-- the column is that of the place where it is found in its line of the text, from 1
pub record IsPlaced (isa : InstructionSet) (text : List ℕ) (placed : PlacedFinding) : Type 0 where
  pub place : Place
  pub there : IsFoundAt isa placed.finding.what (line_at text placed.finding.line) place
  pub column : placed.column ≡ place.start + 1

-- what is found, where something is, with its column
abbrev pub IsPlacedAs : InstructionSet → (text : List ℕ) → Option Found → Option PlacedFinding → Type 0
IsPlacedAs isa text None fault = fault ≡ None
IsPlacedAs isa text (Some found) fault = (placed : PlacedFinding) × (fault ≡ Some placed) × (placed.finding ≡ found) × IsPlaced isa text placed

-- the first reads in delay slots of a text, at most so many, each with a column
pub record AreReads (isa : InstructionSet) (most : ℕ) (text : List ℕ) (reads : List PlacedRead) : Type 0 where
  pub drafts : List Draft
  pub all : map draft_of drafts ≡ (code_cut isa text).drafts
  pub same : map (λ read. read.early) reads ≡ take most (early_among drafts)

-- A text of packets has a fault where it isn't adopted as it stands, and is told as that. Others may be told behind it. Of one that is adopted
-- there are the reads in delay slots, at most so many.
pub data AreRemarks (isa : InstructionSet) (most : ℕ) (text : List ℕ) (remarks : Remarks) : Type 0 where
  Adopted : remarks.faulty ≡ false → (packets : List Packed) (added : ℕ) → IsAdopted isa false text packets added → remarks.fault ≡ None
      → remarks.further.items ≡ [] → AreReads isa most text remarks.reads.items → AreRemarks isa most text remarks
  Refused : remarks.faulty ≡ true → (fault : AdoptFault) → fault ≢ NoRoom → Refuses isa false text fault
      → (placed : PlacedFinding) → remarks.fault ≡ Some placed → IsToldAs (adopt_fault_text fault) placed.finding → IsPlaced isa text placed
      → All (IsPlaced isa text) remarks.further.items → remarks.reads.items ≡ [] → AreRemarks isa most text remarks

-- and a listing where it isn't read
pub data AreListingRemarks (isa : InstructionSet) (text : List ℕ) (remarks : Remarks) : Type 0 where
  Read : remarks.faulty ≡ false → (packets : List Packed) → IsRead isa text packets → remarks.fault ≡ None → remarks.further.items ≡ []
      → remarks.reads.items ≡ [] → AreListingRemarks isa text remarks
  Unread : remarks.faulty ≡ true → (fault : ListFault) → fault ≢ NoStore → RefusesListing isa text fault
      → (found : Option Found) → IsFoundListed isa text fault found → IsPlacedAs isa text found remarks.fault → All (IsPlaced isa text) remarks.further.items
      → remarks.reads.items ≡ [] → AreListingRemarks isa text remarks

-- ---- lines

-- `FILE:LINE:COLUMN: error: NAME: SENTENCE`
unfoldable pub placed_line : (name : List ℕ) → PlacedFinding → List ℕ
placed_line name placed =
    column_position name placed.finding.line placed.column ++ fault_text (what_name placed.finding.what) (what_sentence placed.finding.what)

-- `FILE:LINE:COLUMN: warning: ..`
unfoldable pub read_line : (name : List ℕ) → PlacedRead → List ℕ
read_line name read = editors_place name read.early.line read.column ++ early_text read.early

abbrev pub fault_line : (name : List ℕ) → Option PlacedFinding → List ℕ
fault_line name None = []
fault_line name (Some placed) = placed_line name placed

-- a line for the fault, where there is one, for each that is told behind it, and for each read
unfoldable pub remark_lines : (name : List ℕ) → Remarks → List ℕ
remark_lines name remarks =
    fault_line name remarks.fault ++ flat_map (placed_line name) remarks.further.items ++ flat_map (read_line name) remarks.reads.items

-- these are the lines of what is found in packets, and in a listing
pub record TellsRemarks (isa : InstructionSet) (most : ℕ) (name text lines : List ℕ) : Type 0 where
  pub remarks : Remarks
  pub are : AreRemarks isa most text remarks
  pub says : lines ≡ remark_lines name remarks

pub record TellsListingRemarks (isa : InstructionSet) (name text lines : List ℕ) : Type 0 where
  pub remarks : Remarks
  pub are : AreListingRemarks isa text remarks
  pub says : lines ≡ remark_lines name remarks
