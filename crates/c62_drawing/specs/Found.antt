-- What of a text runs, where it isn't refused (docs/LISTING.md, docs/ADOPT.md, docs/EXEC.md).
use Rattle.std.specs.Prelude.{◌≡◌, ◌≢◌, ◌⊎◌, Bool, true, ℕ, List, Option, Some, None}
use Rattle.clap.specs.Words.{Text}
use Rattle.c62_packet.specs.Packed.{Packed}
use Rattle.c62_adopt.specs.Answer.{IsCoded, code_in, code_read}
use Rattle.c62_rows.specs.declared.text.Begun.{Begun}
use Rattle.c62_rows.specs.declared.fault.RowsFault.{RowsFault}
use Rattle.c62_rows.specs.declared.fault.RowsFault.TheVariants.{Memory as NoPlace}
use Rattle.c62_rows.specs.Text.{RefusesFrom}
use Rattle.c62_rows.specs.Told.{BeginsAs}
use Rattle.c62_reach.specs.Taken.{IsTaken}
use Rattle.c62_command.specs.declared.command.Form.{Form}
use Rattle.c62_answer.specs.Texts.{IsUncoded, IsUnreached, SaysNoPackets, SaysPackets}
use Rattle.c62_op.specs.declared.set.InstructionSet.{InstructionSet}

-- the packets that a text of this form says, or it is refused
abbrev pub FindsPackets : InstructionSet → Form → (text : List ℕ) → Option (List Packed) → Type 0
FindsPackets isa form text (Some packets) = SaysPackets isa form text packets
FindsPackets isa form text None = (message : List ℕ) × SaysNoPackets isa form text message

-- the rows of code, and the first of a run, or it is refused
abbrev pub FindsRows : InstructionSet → (from : Option Text) → (code : List ℕ) → Option Begun → Type 0
FindsRows isa from code (Some begun) = BeginsAs isa code from begun
FindsRows isa from code None = (fault : RowsFault) × (fault ≢ NoPlace) × RefusesFrom isa code from fault

-- those of a text's code
abbrev pub FindsCode : InstructionSet → (from : Option Text) → (text : List ℕ) → Option Begun → Type 0
FindsCode isa from text found =
    (IsCoded isa text × FindsRows isa from (code_in (code_read isa text)) found) ⊎ ((message : List ℕ) × IsUncoded isa text message × (found ≡ None))

-- those of what is taken of a text from this label on
abbrev pub FindsTaken : InstructionSet → (name : Text) → (from : Option Text) → (text : List ℕ) → Option Begun → Type 0
FindsTaken isa name from text found =
    ((taken : List ℕ) × IsTaken isa name text taken × FindsCode isa from taken found)
    ⊎ ((message : List ℕ) × IsUnreached isa name text message × (found ≡ None))

-- those of a text, of which only what the label reaches is read, or all
abbrev pub FindsFlight : InstructionSet → (alone : Bool) → (from : Option Text) → (text : List ℕ) → Option Begun → Type 0
FindsFlight isa true (Some name) text found = FindsTaken isa name (Some name) text found
FindsFlight isa alone from text found = FindsCode isa from text found
