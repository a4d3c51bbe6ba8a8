-- Lines that are told, from what is found.
use Rattle.std.proofs.Common.{arith, ◌≡◌, ◌∙◌, ◌<◌, ◌+◌, ℕ, suc, List, [], ◌∷◌, ◌++◌, length, get_or, drop}
use Rattle.std.proofs.Common.{ap, refl, sym}
use Rattle.std.proofs.Common.{append_assoc, append-nil}
use Rattle.std.proofs.Math.Seq.{drop-cons}
use Rattle.std.proofs.lemmas.List.{map-append}
use Rattle.std.proofs.lemmas.List.Elements.{All-push}
use Rattle.std.specs.Prelude.{◌≢◌, All, codes, decimal, map, OnOk, Option, Some, None, Result, Ok, Err}
use Rattle.std.specs.List.{flat_map}
use Rattle.c62_adopt.specs.FaultText.{adopt_fault_text}
use Rattle.c62_adopt.specs.declared.fault.AdoptFault.{AdoptFault}
use Rattle.c62_adopt.specs.declared.fault.AdoptFault.TheVariants.{Memory as NoRoom}
use Rattle.c62_explain_packets.specs.Finding.{IsToldAs, what_name}
use Rattle.c62_explain_packets.specs.Linted.{IsLintedListing, IsLintedPackets}
use Rattle.c62_explain_packets.specs.Linted.IsLintedListing.{Read as ReadLines, Unread as UnreadLines}
use Rattle.c62_explain_packets.specs.Linted.IsLintedPackets.{Adopted as AdoptedLines, Refused as RefusedLines}
use Rattle.c62_explain_packets.specs.Listed.{TellsFound}
use Rattle.c62_explain_packets.specs.Remarks.{AreListingRemarks, AreRemarks, IsPlaced, IsPlacedAs}
use Rattle.c62_explain_packets.specs.Remarks.{fault_line, placed_line, read_line, remark_lines}
use Rattle.c62_explain_packets.specs.Remarks.AreListingRemarks.{Read, Unread}
use Rattle.c62_explain_packets.specs.Remarks.AreRemarks.{Adopted, Refused}
use Rattle.c62_explain_packets.specs.Warned.{AreWarned, TellFaults, TellsFault, verb, writer_text}
use Rattle.c62_explain_packets.specs.declared.early.EarlyRead.{EarlyRead}
use Rattle.c62_explain_packets.specs.declared.finding.Finding.{Finding as Found}
use Rattle.c62_explain_packets.specs.declared.remarks.PlacedFinding.{PlacedFinding}
use Rattle.c62_explain_packets.specs.declared.remarks.PlacedRead.{PlacedRead}
use Rattle.c62_explain_packets.specs.declared.remarks.Remarks.{Remarks}
use Rattle.c62_op.specs.declared.set.InstructionSet.{InstructionSet}

-- the line that writes, and what it does
writer_there : (early : EarlyRead) (old first second new : List ℕ) → first ≡ old ++ codes ", which line "
    → second ≡ first ++ decimal early.writer
    → new ≡ second ++ verb early.loads → new ≡ old ++ writer_text early
writer_there early old first second new is number says =
    says ∙ ap (λ (front : List ℕ). front ++ verb early.loads) (number
    ∙ ap (λ (front : List ℕ). front ++ decimal early.writer) is)
    ∙ append_assoc (old ++ codes ", which line ") (decimal early.writer) (verb early.loads)
    ∙ append_assoc old (codes ", which line ") (decimal early.writer ++ verb early.loads)

pub writer_on : {E : Type 0} (result : Result (Unit {0}) E) (early : EarlyRead) (old first second new : List ℕ)
    → first ≡ old ++ codes ", which line "
    → second ≡ first ++ decimal early.writer → OnOk result (new ≡ second ++ verb early.loads)
    → OnOk result (new ≡ old ++ writer_text early)
writer_on (Ok done) early old first second new is number says = writer_there early old first second new is number says
writer_on (Err error) early old first second new is number says = tt

-- want of memory is told of no line
no_line : (found : Found) → codes "memory" ≡ codes "line " ++ decimal found.line ++ codes ": " ++ what_name found.what
    → ⊥
no_line found same = let first : 109 ≡ 108 = ap (λ (text : List ℕ). get_or text 0 0) same in omega (arith, first)

pub has_room : (fault : AdoptFault) (found : Found) → IsToldAs (adopt_fault_text fault) found → fault ≢ NoRoom
has_room fault found told is = no_line found (rw is at told)

-- one more of the reads, with its column
pub reads_next : (reads : List EarlyRead) (index : ℕ) (all new : List PlacedRead) (read : PlacedRead)
    (early : EarlyRead) → index < length reads → read.early ≡ get_or reads index early
    → map (λ each. each.early) all ++ drop index reads ≡ reads → new ≡ all ++ read ∷ []
    → map (λ each. each.early) new ++ drop (index + 1) reads ≡ reads
reads_next reads index all new read early within at whole pushed =
    let told : List EarlyRead = map (λ (each : PlacedRead). each.early) all in
    let one : suc index ≡ index + 1 = omega arith in
    let more : drop index reads ≡ read.early ∷ drop (index + 1) reads =
    drop-cons reads index early within
    ∙ (ap (λ (n : ℕ). get_or reads index early ∷ drop n reads) one
    ∙ ap (λ (it : EarlyRead). it ∷ drop (index + 1) reads) (sym at)) in
    ap (λ (them : List PlacedRead). map (λ (each : PlacedRead). each.early) them ++ drop (index + 1) reads) pushed
    ∙ (ap (λ (front : List EarlyRead). front ++ drop (index + 1) reads)
    (map-append (λ (each : PlacedRead). each.early) all (read ∷ []))
    ∙ (append_assoc told (read.early ∷ []) (drop (index + 1) reads)
    ∙ (ap (λ (rest : List EarlyRead). told ++ rest) (sym more) ∙ whole)))

-- ---- the lines of reads and faults

all_warned : (name : List ℕ) (reads : List PlacedRead)
    → AreWarned name (map (λ read. read.early) reads) (flat_map (read_line name) reads)
unfolding read_line
all_warned name [] = refl
all_warned name (read ∷ others) = (
  read_line name read,
  flat_map (read_line name) others,
  refl,
  record { column = read.column; says = refl },
  all_warned name others,
)

told : (isa : InstructionSet) (name text : List ℕ) (placed : PlacedFinding) → IsPlaced isa text placed
    → TellsFault isa name text placed.finding (placed_line name placed)
unfolding placed_line
told isa name text placed is = record { place = is.place; there = is.there; says = rw is.column refl }

tells_found : (isa : InstructionSet) (name text : List ℕ) (found : Option Found) (fault : Option PlacedFinding)
    → IsPlacedAs isa text found fault
    → TellsFound isa name text found (fault_line name fault)
tells_found isa name text None fault is = rw is refl
tells_found isa name text (Some found) fault (placed, is, same, there) =
    rw (is, ← same) (told isa name text placed there)

told_all : (isa : InstructionSet) (name text : List ℕ) (all : List PlacedFinding) → All (IsPlaced isa text) all
    → TellFaults isa name text (map (λ placed. placed.finding) all) (flat_map (placed_line name) all)
told_all isa name text [] there = refl
told_all isa name text (placed ∷ others) there = (
  placed_line name placed,
  flat_map (placed_line name) others,
  refl,
  told isa name text placed (there 0 placed (omega arith)),
  told_all isa name text others (λ k d within. there (suc k) d (omega (arith, within))),
)

-- one more of the faults, with its column
pub placed_next : (isa : InstructionSet) (text : List ℕ) (all new : List PlacedFinding) (placed : PlacedFinding)
    → All (IsPlaced isa text) all → IsPlaced isa text placed → new ≡ all ++ placed ∷ [] → All (IsPlaced isa text) new
placed_next isa text all new placed before is pushed = rw pushed (All-push (IsPlaced isa text) all placed before is)

-- faults have their lines alone
alone : (name : List ℕ) (remarks : Remarks) → remarks.reads.items ≡ []
    → remark_lines name remarks ≡ fault_line name remarks.fault ++ flat_map (placed_line name) remarks.further.items
unfolding remark_lines
alone name remarks none =
    rw none (append-nil (fault_line name remarks.fault ++ flat_map (placed_line name) remarks.further.items))

-- reads have theirs
reads_alone : (name : List ℕ) (remarks : Remarks) → remarks.fault ≡ None → remarks.further.items ≡ []
    → remark_lines name remarks ≡ flat_map (read_line name) remarks.reads.items
unfolding remark_lines
reads_alone name remarks none further = rw (none, further) refl

pub lints_packets : (isa : InstructionSet) (most : ℕ) (name text lines : List ℕ) (remarks : Remarks)
    → AreRemarks isa most text remarks
    → lines ≡ remark_lines name remarks → IsLintedPackets isa most name text lines remarks.faulty
lints_packets isa most name text lines remarks (Adopted sound packets added is none further reads) says =
    AdoptedLines sound packets added is record {
      drafts = reads.drafts;
      all = reads.all;
      warned = rw (says, reads_alone name remarks none further, ← reads.same) (all_warned name remarks.reads.items);
    }
lints_packets isa most name text lines remarks (Refused faulty fault room refuses placed is same there others none) says =
    RefusedLines faulty fault room refuses (placed_line name placed) (flat_map (placed_line name) remarks.further.items)
    (rw (says, alone name remarks none, is) refl)
    record { found = placed.finding; same = same; tells = told isa name text placed there }
    (map (λ each. each.finding) remarks.further.items) (told_all isa name text remarks.further.items others)

pub lints_listing : (isa : InstructionSet) (name text lines : List ℕ) (remarks : Remarks)
    → AreListingRemarks isa text remarks
    → lines ≡ remark_lines name remarks → IsLintedListing isa name text lines remarks.faulty
lints_listing isa name text lines remarks (Read sound packets is none further reads) says =
    ReadLines sound packets is (rw (says, alone name remarks reads, none, further) refl)
lints_listing isa name text lines remarks (Unread faulty fault room refuses found is placed others reads) says =
    UnreadLines faulty fault room refuses found is (fault_line name remarks.fault)
    (flat_map (placed_line name) remarks.further.items) (rw (says, alone name remarks reads) refl)
    (tells_found isa name text found remarks.fault placed)
    (map (λ each. each.finding) remarks.further.items) (told_all isa name text remarks.further.items others)
