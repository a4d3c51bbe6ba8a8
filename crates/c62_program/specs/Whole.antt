-- What the program does (docs/COMMANDS.md).
use Rattle.std.specs.Prelude.{◌≡◌, ℕ, true, false, List, Some, None}
use Rattle.clap.specs.Words.{Text}
use Rattle.c62_answer.specs.Run.{Streams}
use Rattle.c62_files.specs.Call.{IsCall}
use Rattle.c62_files.specs.Expand.{Holding}
use Rattle.c62_files.specs.declared.call.Call.{Call}
use Rattle.c62_tracing.specs.Words.{is_traced}
use Rattle.c62_drawing.specs.declared.run.Traced.{Traced}
use Rattle.c62_program.specs.Page.{page_asked, page_text}
use Rattle.c62_program.specs.Program.{IsFailure, RunsCall}
use Rattle.c62_program.specs.Teaching.{IsTopicRun, is_topic, name_asked}
use Rattle.c62_program.specs.Tracing.{IsTracedRun}
use Rattle.c62_program.specs.Written.{IsWritten}
use Rattle.c62_program.specs.declared.page.Page.{Page as Told}
use Rattle.c62_op.specs.declared.set.InstructionSet.{InstructionSet}

-- The program prints a page, explains a name, does what a call asks for, with a trace or without one, or there is trouble. Of a trace that
-- goes to standard error it is told what that got.
pub data IsProgramRun (isa : InstructionSet) (before after : Holding) (words : List Text) (old new : Streams) (status : ℕ) (traced : Traced) : Type 0 where
  Page : (page : Told) → page_asked words ≡ Some page → IsWritten (page_text page) 0 old.output new.output old.errors new.errors status → IsProgramRun isa before after words old new status traced
  Topic : page_asked words ≡ None → is_topic words ≡ true → IsTopicRun (name_asked words) old.output new.output old.errors new.errors status → IsProgramRun isa before after words old new status traced
  Traces : page_asked words ≡ None → is_topic words ≡ false → is_traced words ≡ true → IsTracedRun isa before after words old new status traced
      → IsProgramRun isa before after words old new status traced
  Runs : (call : Call) → page_asked words ≡ None → is_topic words ≡ false → is_traced words ≡ false → IsCall words call → RunsCall isa before after call old new status
      → IsProgramRun isa before after words old new status traced
  Fails : page_asked words ≡ None → is_topic words ≡ false → IsFailure before after words old new status → IsProgramRun isa before after words old new status traced
