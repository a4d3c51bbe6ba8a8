-- What a text of packets is adopted as, or why it is refused (docs/ADOPT.md).
use Rattle.std.specs.Prelude.{◌≡◌, ℕ, ◌+◌, Bool, nat_lt, if◌then◌else◌, List, [], length, take, All, Some, None, Result, Ok, Err}
use Rattle.std.specs.List.{AllZip}
use Rattle.c62_packet.specs.Packed.{Packed}
use Rattle.c62_adopt_cut.specs.Text.{Cut, most_bytes, text_cut}
use Rattle.c62_adopt_cut.specs.Drafted.{refusal_of}
use Rattle.c62_adopt_cut.specs.Flight.{first_in_flight, cycles_lacking, or_behind}
use Rattle.c62_adopt_code.specs.Code.{Refusal as CodeRefusal, code_of}
use Rattle.c62_adopt.specs.declared.fault.AdoptFault.{AdoptFault}
use Rattle.c62_adopt.specs.declared.fault.AdoptFault.TheVariants.{Text, Rule, Memory, Code}
use Rattle.c62_adopt.specs.Blocks.{IsBlockOf}
use Rattle.c62_adopt.specs.Breach.{KeepsRules, IsFirstBreach}
use Rattle.c62_op.specs.declared.set.InstructionSet.{InstructionSet}

-- what is read is the whole text, nothing is in flight where its blocks are over, and these are its packets
pub record IsAdoptedCut (drain : Bool) (cut : Cut) (packets : List Packed) : Type 0 where
  pub whole : cut.fault ≡ None
  pub over : first_in_flight drain cut ≡ None
  pub blocks : AllZip (IsBlockOf cut.drafts) cut.drafts packets

-- A text's code. One that is too long has none, and isn't looked at.
abbrev pub code_read : InstructionSet → List ℕ → Result (List ℕ) CodeRefusal
code_read isa text = if nat_lt most_bytes (length text) then Ok (take (most_bytes + 1) text) else code_of isa text

abbrev pub code_in : Result (List ℕ) CodeRefusal → List ℕ
code_in (Ok code) = code
code_in (Err refusal) = []

-- what is read of it
abbrev pub code_cut : InstructionSet → List ℕ → Cut
code_cut isa text = text_cut isa (code_in (code_read isa text))

-- its line keeps the text from having code
abbrev pub LacksCode : InstructionSet → List ℕ → AdoptFault → Type 0
LacksCode isa text (Code line cause) = code_read isa text ≡ Err (line, cause)
LacksCode isa text Memory = Unit {0}
LacksCode isa text _ = ⊥

abbrev pub IsCoded : InstructionSet → List ℕ → Type 0
IsCoded isa text = code_read isa text ≡ Ok (code_in (code_read isa text))

-- the packets of what is read, and how many cycles it lacks
pub record IsAdoptedFrom (drain : Bool) (found : Cut) (packets : List Packed) (added : ℕ) : Type 0 where
  pub cut : IsAdoptedCut drain found packets
  pub lacking : added ≡ cycles_lacking found

-- A text's packets, and how many cycles were added to drain it. Where that isn't asked for, none lack.
pub record IsAdopted (isa : InstructionSet) (drain : Bool) (text : List ℕ) (packets : List Packed) (added : ℕ) : Type 0 where
  pub coded : IsCoded isa text
  pub read : IsAdoptedFrom drain (code_cut isa text) packets added

-- the packet rules are kept as far as the text is read
abbrev pub KeepsAllRules : Cut → Type 0
KeepsAllRules cut = All (KeepsRules cut.drafts) cut.drafts

-- The first line decides that breaks a rule with those above it, then the first that has another fault by itself or because of
-- those above it, then the first that has one because of those below it.
abbrev pub RefusesCut : Bool → Cut → AdoptFault → Type 0
RefusesCut drain cut (Text fault) = KeepsAllRules cut × (or_behind cut.fault (first_in_flight drain cut) ≡ Some (refusal_of fault))
RefusesCut drain cut (Rule line rule) = IsFirstBreach cut.drafts line rule
RefusesCut drain cut Memory = Unit {0}
RefusesCut drain cut (Code line cause) = ⊥

-- before all this the first line decides that keeps a text from having code
abbrev pub Refuses : InstructionSet → Bool → List ℕ → AdoptFault → Type 0
Refuses isa drain text (Code line cause) = code_read isa text ≡ Err (line, cause)
Refuses isa drain text Memory = Unit {0}
Refuses isa drain text fault = IsCoded isa text × RefusesCut drain (code_cut isa text) fault
