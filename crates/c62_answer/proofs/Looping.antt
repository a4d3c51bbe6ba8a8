-- Packets of a text whose loops are pipelined, from what each step gave.
use Rattle.std.proofs.Common.{◌≡◌, ◌∙◌, ◌++◌, ℕ, Bool, List, Some, None, Err, ap, refl, subst, inl, inr}
use Rattle.clap.specs.Words.{Text as Name}
use Rattle.c62_op.specs.declared.register.Reg.{Reg}
use Rattle.c62_read.specs.Block.{Serial}
use Rattle.c62_packet.specs.Packed.{Packed}
use Rattle.c62_rows.specs.declared.fault.RowsFault.{RowsFault}
use Rattle.c62_flight.specs.Text.{IsIssuable, Text as FlightText}
use Rattle.c62_rows.specs.declared.rows.Rows.{Rows}
use Rattle.c62_rows.specs.declared.text.Begun.{Begun}
use Rattle.c62_rows.specs.Rows.{text_of}
use Rattle.c62_rows.specs.Text.{RefusesFrom}
use Rattle.c62_rows.specs.Told.{BeginsAs}
use Rattle.c62_rows.proofs.Issuable.{rows_are_issuable}
use Rattle.c62_check_loops.specs.Granted.{first_loopless}
use Rattle.c62_command.specs.CommandLine.{Ask, LoopListing, LoopPicture, LoopReport}
use Rattle.c62_command.specs.declared.command.Drawing.{Drawing}
use Rattle.c62_command.specs.declared.command.Packing.{Packing}
use Rattle.c62_command.specs.declared.flight.FlightCourse.{FlightCourse}
use Rattle.c62_command.specs.declared.setting.Setting.{Setting}
use Rattle.c62_pipeline.specs.declared.written.Pipelining.{Pipelining}
use Rattle.c62_pipeline.specs.Checked.{IsWritten}
use Rattle.c62_pipeline.specs.Lined.{AreLined}
use Rattle.c62_pipeline.proofs.Lining.{relined_issuable}
use Rattle.c62_answer.specs.declared.failure.Failure.{Failure}
use Rattle.c62_answer.specs.declared.failure.Failure.TheVariants as failures
use Rattle.c62_answer.specs.declared.outcome.Outcome.{Outcome}
use Rattle.c62_answer.specs.Message.{fault_message, no_loop}
use Rattle.c62_answer.specs.Looped.{IsLooped, IsReadAgain, IsUnlooped, told_lines}
use Rattle.c62_answer.specs.Run.{Gives, GivesProgram, IsFlown, IsLoopReport, IsRefusedText, IsRowsFailure, IsToldBeside}
use Rattle.c62_answer.specs.Run.{RefusesLooped, TellsFlightFaults, TellsIf, breach_of}
use Rattle.c62_answer.specs.Schedule.{AreScheduled}
use Rattle.c62_answer.specs.Texts.{SaysProgram}
use Rattle.c62_answer.proofs.OneText.{one_program}
use Rattle.c62_op.specs.declared.set.InstructionSet.{InstructionSet}

module _ (isa : InstructionSet) (trips : List (Name × ℕ)) (text : List ℕ) where
  -- no program was read
  pub unread_loops : (f : Failure) → GivesProgram isa text (Err f) → RefusesLooped isa trips text f
  unread_loops (failures.Unread fault) gives = inl gives
  unread_loops (failures.Unlisted fault) gives = absurd gives
  unread_loops (failures.Unadopted fault) gives = absurd gives
  unread_loops (failures.Unflown fault) gives = absurd gives
  unread_loops (failures.TextPart fault) gives = absurd gives
  unread_loops (failures.ListingPart fault) gives = absurd gives
  unread_loops (failures.PacketsPart fault) gives = absurd gives
  unread_loops failures.NoListing gives = absurd gives
  unread_loops (failures.RowsPart fault) gives = absurd gives
  unread_loops (failures.NoLoop k) gives = absurd gives
  unread_loops (failures.Promise bad) gives = absurd gives
  unread_loops (failures.Excluded exclusion) gives = absurd gives
  unread_loops (failures.Words e) gives = absurd gives
  unread_loops (failures.Setting k) gives = absurd gives
  unread_loops failures.Memory gives = tt
  unread_loops failures.Input gives = absurd gives
  unread_loops failures.Output gives = absurd gives

  -- a label is no loop's
  pub loopless : (program : List Serial) (number : ℕ) → SaysProgram isa text program
      → first_loopless program trips ≡ Some number → RefusesLooped isa trips text (failures.NoLoop number)
  loopless program number says first =
      inr (record { program = program; says = says; number = number; first = first; told = refl })

  -- what refuses loops refuses what is asked of them
  pub no_loops : (ask : Ask)
      → ((message : List ℕ) → IsUnlooped isa trips text message → IsRefusedText isa ask text message)
      → (f : Failure) → RefusesLooped isa trips text f → Gives isa ask text (Err f)
  no_loops ask same (failures.Unread fault) gives = same (fault_message fault.line fault.cause) gives
  no_loops ask same (failures.Unlisted fault) gives = absurd gives
  no_loops ask same (failures.Unadopted fault) gives = absurd gives
  no_loops ask same (failures.Unflown fault) gives = absurd gives
  no_loops ask same (failures.TextPart fault) gives = absurd gives
  no_loops ask same (failures.ListingPart fault) gives = absurd gives
  no_loops ask same (failures.PacketsPart fault) gives = absurd gives
  no_loops ask same failures.NoListing gives = absurd gives
  no_loops ask same (failures.RowsPart fault) gives = absurd gives
  no_loops ask same (failures.NoLoop number) gives = same (no_loop number) gives
  no_loops ask same (failures.Promise bad) gives = absurd gives
  no_loops ask same (failures.Excluded exclusion) gives = absurd gives
  no_loops ask same (failures.Words e) gives = absurd gives
  no_loops ask same (failures.Setting k) gives = absurd gives
  no_loops ask same failures.Memory gives = tt
  no_loops ask same failures.Input gives = absurd gives
  no_loops ask same failures.Output gives = absurd gives

-- of each of the three
pub no_listed_loops : (isa : InstructionSet) (verbose : Bool) (packing : Packing) (trips : List (Name × ℕ))
    (apart : List Reg) (text : List ℕ)
    (f : Failure) → RefusesLooped isa trips text f → Gives isa (LoopListing verbose packing trips apart) text (Err f)
no_listed_loops isa verbose packing trips apart text =
    no_loops isa trips text (LoopListing verbose packing trips apart) (λ message is. is)

pub no_drawn_loops : (isa : InstructionSet) (drawing : Drawing) (packing : Packing) (trips : List (Name × ℕ))
    (apart : List Reg)
    (text : List ℕ) (f : Failure) → RefusesLooped isa trips text f
    → Gives isa (LoopPicture drawing packing trips apart) text (Err f)
no_drawn_loops isa drawing packing trips apart text =
    no_loops isa trips text (LoopPicture drawing packing trips apart) (λ message is. is)

pub no_run_loops : (isa : InstructionSet) (verbose : Bool) (packing : Packing) (trips : List (Name × ℕ))
    (apart : List Reg)
    (course : FlightCourse) (settings : List Setting) (text : List ℕ) (f : Failure) → RefusesLooped isa trips text f
    → Gives isa (LoopReport verbose packing trips apart course settings) text (Err f)
no_run_loops isa verbose packing trips apart course settings text =
    no_loops isa trips text (LoopReport verbose packing trips apart course settings) (λ message is. inl is)

-- a program was read twice, and packed
pub looped_text : (isa : InstructionSet) (packing : Packing) (trips : List (Name × ℕ)) (apart : List Reg)
    (text : List ℕ)
    (program again : List Serial) (own : List Packed) (written : Pipelining)
    → SaysProgram isa text program → first_loopless program trips ≡ None → SaysProgram isa text again
    → AreScheduled packing again own → IsWritten isa trips apart program own written
    → IsLooped isa packing trips apart text program written
looped_text isa packing trips apart text program again own written says named other packed is = record {
  says = says;
  named = named;
  own = own;
  packed = subst (λ (p : List Serial). AreScheduled packing p own)
      (one_program isa text again program other says) packed;
  is = is;
}

-- ---- a run

-- what is written isn't read again
pub unread_again : (isa : InstructionSet) (verbose : Bool) (packing : Packing) (trips : List (Name × ℕ))
    (apart : List Reg)
    (course : FlightCourse) (settings : List Setting) (text : List ℕ) (program : List Serial) (written : Pipelining)
    (fault : RowsFault) (f : Failure)
    → IsLooped isa packing trips apart text program written → IsRowsFailure fault f
    → RefusesFrom isa written.text.items None fault
    → Gives isa (LoopReport verbose packing trips apart course settings) text (Err f)
unread_again isa verbose packing trips apart course settings text program written fault f looped (inl memory) refused =
    rw (memory.1) tt
unread_again isa verbose packing trips apart course settings text program written fault f looped (inr known) refused =
    rw (known.1) (inr (record {
      program = program;
      written = written;
      looped = looped;
      fault = fault;
      known = known.0;
      refused = refused;
      told = refl;
    }))

-- it is, in the lines of the program
pub again_lined : (isa : InstructionSet) (program : List Serial) (written : Pipelining) (begun : Begun) (rows : Rows)
    → BeginsAs isa written.text.items None begun → AreLined program (text_of begun.rows) (text_of rows)
    → IsReadAgain isa program written (record { rows = rows; first = begun.first; labels = begun.labels })
again_lined isa program written begun rows begins lined = record {
  read = text_of begun.rows;
  begins = begins.is_text;
  named = begins.named;
  lined = lined;
  issuable = relined_issuable (text_of begun.rows) (text_of rows) lined.relined
      (rows_are_issuable begun.rows begins.rows);
}

pub is_issuable : (isa : InstructionSet) (program : List Serial) (written : Pipelining) (begun : Begun)
    → IsReadAgain isa program written begun → IsIssuable (text_of begun.rows)
is_issuable isa program written begun again = again.issuable

-- what is told beside it
pub told_beside_it : (verbose : Bool) (program : List Serial) (written : Pipelining) (flying : FlightText) (first : ℕ)
    (course : FlightCourse) (settings : List Setting) (lines accesses told : List ℕ)
    → lines ≡ told_lines verbose program written
    → TellsIf course.strict (TellsFlightFaults flying first settings course accesses) accesses
    → told ≡ lines ++ accesses → IsToldBeside verbose program written flying first course settings told
told_beside_it verbose program written flying first course settings lines accesses told are tells all = record {
  accesses = accesses;
  tells = tells;
  all = all ∙ ap (λ (front : List ℕ). front ++ accesses) are;
}

-- and this is its run
pub loops_flown : (isa : InstructionSet) (verbose : Bool) (packing : Packing) (trips : List (Name × ℕ))
    (apart : List Reg)
    (course : FlightCourse) (settings : List Setting) (told text answer : List ℕ) (program : List Serial)
    (written : Pipelining) (begun : Begun) (outcome : Outcome)
    → IsLooped isa packing trips apart text program written → IsReadAgain isa program written begun
    → IsToldBeside verbose program written (text_of begun.rows) begun.first course settings told
    → IsFlown (text_of begun.rows) begun.labels.entries begun.first settings course outcome answer
    → IsLoopReport isa verbose packing trips apart course settings told (breach_of outcome) text answer
loops_flown isa verbose packing trips apart course settings told text answer program written begun outcome looped again
    beside flown = record {
      program = program;
      written = written;
      looped = looped;
      read = again.read;
      first = begun.first;
      begins = again.begins;
      flying = text_of begun.rows;
      lined = again.lined;
      beside = beside;
      outcome = outcome;
      flown = subst (λ (labels : List (Name × ℕ)).
          IsFlown (text_of begun.rows) labels begun.first settings course outcome answer) again.named flown;
      ends = refl;
    }
