-- What `lint` answers (docs/FAULTS.md, "All faults at once").
use Rattle.std.specs.Prelude.{◌≡◌, ℕ, Bool, true, false, List, ◌++◌, is_err, IfErr}
use Rattle.c62_line.specs.declared.fault.ReadFault.{ReadFault}
use Rattle.c62_read.specs.Program.{Refusal, program_in}
use Rattle.c62_lint.specs.Faults.{refusal_of}
use Rattle.c62_explain.specs.Picture.{LintsOne, LintsText}
use Rattle.c62_explain_packets.specs.Linted.{IsLintedListing, IsLintedPackets}
use Rattle.c62_json_lint.specs.Linted.{IsListingDocument, IsPacketsDocument, IsSerialDocument}
use Rattle.c62_teach.specs.declared.words.Kind.{Kind}
use Rattle.c62_teach.specs.declared.words.Kind.TheVariants.{Serial, Listing, Packets}
use Rattle.c62_teach.specs.declared.words.Linting.{Linting}
use Rattle.c62_op.specs.declared.set.InstructionSet.{InstructionSet}

-- the first of these lines tells the fault that a text is refused for
pub record BeginsWith (isa : InstructionSet) (name text : List ℕ) (refusal : Refusal) (lines : List ℕ) : Type 0 where
  pub fault : ReadFault
  pub same : refusal_of fault ≡ refusal
  pub first : List ℕ
  pub others : List ℕ
  pub whole : lines ≡ first ++ others
  pub told : LintsOne isa name text fault first

-- a line for each of a serial text's first faults
pub record IsLintedSerial (isa : InstructionSet) (most : ℕ) (name text lines : List ℕ) (faulty : Bool) : Type 0 where
  pub all : LintsText isa name text most lines
  -- there is one exactly where the commands refuse the text, and the first line tells what they refuse it for
  pub refused : faulty ≡ is_err (program_in isa text)
  pub first : IfErr (program_in isa text) (λ refusal. BeginsWith isa name text refusal lines)

-- what is found in a text of this kind
abbrev pub IsLintedAs : InstructionSet → Kind → (most : ℕ) → (name text lines : List ℕ) → (faulty : Bool) → Type 0
IsLintedAs isa Serial most name text lines faulty = IsLintedSerial isa most name text lines faulty
IsLintedAs isa Listing most name text lines faulty = IsLintedListing isa name text lines faulty
IsLintedAs isa Packets most name text lines faulty = IsLintedPackets isa most name text lines faulty

-- its document
abbrev pub IsDocumentAs : InstructionSet → Kind → (most : ℕ) → (name text lines : List ℕ) → (faulty : Bool) → Type 0
IsDocumentAs isa Serial most name text document faulty = IsSerialDocument isa most name text document faulty
IsDocumentAs isa Listing most name text document faulty = IsListingDocument isa name text document faulty
IsDocumentAs isa Packets most name text document faulty = IsPacketsDocument isa most name text document faulty

abbrev pub IsLintedSo : InstructionSet → (json : Bool) → Kind → (most : ℕ) → (name text told : List ℕ) → (faulty : Bool) → Type 0
IsLintedSo isa false kind most name text told faulty = IsLintedAs isa kind most name text told faulty
IsLintedSo isa true kind most name text told faulty = IsDocumentAs isa kind most name text told faulty

abbrev pub IsLinted : InstructionSet → Linting → (name text told : List ℕ) → (faulty : Bool) → Type 0
IsLinted isa linting name text told faulty = IsLintedSo isa linting.json linting.kind linting.most name text told faulty
