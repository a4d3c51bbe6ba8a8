-- What is told of packets, a line for editors each (docs/FAULTS.md, "All faults at once" and "Reads in delay slots").
use Rattle.std.specs.Prelude.{◌≡◌, ℕ, ◌==◌, Bool, List, [], ◌∷◌, ◌++◌, map, take, codes, decimal, if◌then◌else◌}
use Rattle.std.specs.List.{flat_map}
use Rattle.c62_op.specs.Name.{register_name}
use Rattle.c62_adopt_cut.specs.Drafted.{draft_of}
use Rattle.c62_adopt_cut.specs.declared.draft.Draft.{Draft}
use Rattle.c62_adopt.specs.Answer.{code_cut}
use Rattle.c62_adopt.specs.FaultText.{adopt_fault_text}
use Rattle.c62_adopt.specs.declared.fault.AdoptFault.{AdoptFault}
use Rattle.c62_place.specs.declared.place.Place.{Place}
use Rattle.c62_explain.specs.Picture.{line_at, position}
use Rattle.c62_explain_packets.specs.Early.{early_reads}
use Rattle.c62_explain_packets.specs.Sentence.{what_sentence}
use Rattle.c62_explain_packets.specs.Place.{IsFoundAt}
use Rattle.c62_explain_packets.specs.Finding.{IsToldAs, what_name}
use Rattle.c62_explain_packets.specs.declared.early.EarlyRead.{EarlyRead}
use Rattle.c62_explain_packets.specs.declared.finding.Finding.{Finding as Found}
use Rattle.c62_op.specs.declared.set.InstructionSet.{InstructionSet}

-- `FILE:LINE:COLUMN: `
abbrev pub editors_place : (name : List ℕ) → (line column : ℕ) → List ℕ
editors_place name line column = name ++ codes ":" ++ decimal line ++ codes ":" ++ decimal column ++ codes ": "

-- ---- faults

-- `error: NAME: SENTENCE`
abbrev pub fault_text : (name sentence : List ℕ) → List ℕ
fault_text name sentence = codes ": error: " ++ name ++ codes ": " ++ sentence ++ codes "\n"

-- `FILE:LINE:COLUMN: error: NAME: SENTENCE`, at the place where the fault is found in that line of the text
pub record TellsFault (isa : InstructionSet) (name text : List ℕ) (found : Found) (lines : List ℕ) : Type 0 where
  pub place : Place
  pub there : IsFoundAt isa found.what (line_at text found.line) place
  pub says : lines ≡ position name found.line place ++ fault_text (what_name found.what) (what_sentence found.what)

-- a line tells each of these faults, in their order
abbrev pub TellFaults : InstructionSet → (name text : List ℕ) → List Found → List ℕ → Type 0
TellFaults isa name text [] lines = lines ≡ []
TellFaults isa name text (found ∷ others) lines =
    (first : List ℕ) × (behind : List ℕ) × (lines ≡ first ++ behind) × TellsFault isa name text found first
    × TellFaults isa name text others behind

-- a line tells what the text is refused for: the line and the name are those of the refusal
pub record TellsRefusal (isa : InstructionSet) (name text : List ℕ) (fault : AdoptFault) (lines : List ℕ) : Type 0 where
  pub found : Found
  pub same : IsToldAs (adopt_fault_text fault) found
  pub tells : TellsFault isa name text found lines

-- ---- reads in delay slots

abbrev pub verb : (loads : Bool) → List ℕ
verb loads = if loads then codes " loads" else codes " writes"

abbrev pub later : ℕ → List ℕ
later missing = if missing == 1 then codes " cycle later" else codes " cycles later"

-- `line 2 reads A5`
abbrev pub reader_text : EarlyRead → List ℕ
reader_text early = codes "line " ++ decimal early.line ++ codes " reads " ++ register_name early.register

-- `, which line 1 loads`
abbrev pub writer_text : EarlyRead → List ℕ
writer_text early = codes ", which line " ++ decimal early.writer ++ verb early.loads

-- `: it lands 4 cycles later`
abbrev pub landing_text : EarlyRead → List ℕ
landing_text early = codes ": it lands " ++ decimal early.missing ++ later early.missing

-- what is said of a read in a delay slot
unfoldable pub early_sentence : EarlyRead → List ℕ
early_sentence early = reader_text early ++ writer_text early ++ landing_text early

-- `warning: `, and that
abbrev pub early_text : EarlyRead → List ℕ
early_text early = codes "warning: " ++ early_sentence early ++ codes "\n"

-- `FILE:LINE:COLUMN: `, at some column of the line that reads
pub record Warns (name : List ℕ) (early : EarlyRead) (line : List ℕ) : Type 0 where
  pub column : ℕ
  pub says : line ≡ editors_place name early.line column ++ early_text early

-- a warning for each of these reads, in their order
abbrev pub AreWarned : (name : List ℕ) → List EarlyRead → List ℕ → Type 0
AreWarned name [] lines = lines ≡ []
AreWarned name (early ∷ others) lines =
    (first : List ℕ) × (behind : List ℕ) × (lines ≡ first ++ behind) × Warns name early first × AreWarned name others behind

-- the reads in delay slots of these blocks
abbrev pub early_among : List Draft → List EarlyRead
early_among drafts = flat_map (λ draft. early_reads draft.issues.items) drafts

-- a warning for each of the first reads in delay slots of a text, at most so many
pub record WarnsText (isa : InstructionSet) (most : ℕ) (name text lines : List ℕ) : Type 0 where
  pub drafts : List Draft
  pub all : map draft_of drafts ≡ (code_cut isa text).drafts
  pub warned : AreWarned name (take most (early_among drafts)) lines
