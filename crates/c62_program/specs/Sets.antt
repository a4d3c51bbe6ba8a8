-- What the program does by the set of instructions that its words ask for (docs/COMMANDS.md, "Options").
use Rattle.std.specs.Prelude.{◌≡◌, ℕ, Bool, true, false, Some, None, List}
use Rattle.clap.specs.Words.{Text}
use Rattle.c62_op.specs.declared.set.InstructionSet.{InstructionSet}
use Rattle.c62_op.specs.declared.set.InstructionSet.TheVariants.{Core}
use Rattle.c62_isa.specs.Words.{asked_set, asks_set, other_words}
use Rattle.c62_answer.specs.Message.{Tells}
use Rattle.c62_answer.specs.Run.{Streams}
use Rattle.c62_files.specs.Expand.{Holding}
use Rattle.c62_drawing.specs.declared.run.Traced.{Traced}
use Rattle.std.specs.Io.KnownBytes.{Keeps}
use Rattle.c62_program.specs.Trouble.{Says, status_of}
use Rattle.c62_program.specs.Labels.{IsReadRun}
use Rattle.c62_program.specs.declared.page.TheConstants.{ISA}
use Rattle.c62_program.specs.declared.trouble.Trouble.TheVariants.{Memory}

-- What is done for words that ask for a set: these name none and it says so, or memory runs out; or it is done what the other words ask for.
pub data IsSetRun (before after : Holding) (words : List Text) (old new : Streams) (status : ℕ) (traced : Traced) : Type 0 where
  Misnamed : asked_set words ≡ None → status ≡ 2 → Tells old.errors new.errors ISA.now → Keeps old.output new.output → after ≡ before
      → IsSetRun before after words old new status traced
  Exhausted : status ≡ status_of Memory → Says Tells Memory old.errors new.errors → Keeps old.output new.output → after ≡ before
      → IsSetRun before after words old new status traced
  Named : (isa : InstructionSet) → asked_set words ≡ Some isa → IsReadRun isa before after (other_words words) old new status traced
      → IsSetRun before after words old new status traced

abbrev pub by_set : Bool → (before after : Holding) → List Text → (old new : Streams) → (status : ℕ) → Traced → Type 0
by_set true before after words old new status traced = IsSetRun before after words old new status traced
by_set false before after words old new status traced = IsReadRun Core before after words old new status traced

-- without `--isa` the core of the instructions
abbrev pub IsRunBySet : (before after : Holding) → List Text → (old new : Streams) → (status : ℕ) → Traced → Type 0
IsRunBySet before after words old new status traced = by_set (asks_set words) before after words old new status traced
