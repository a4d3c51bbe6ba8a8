-- Answers end with the bytes of memory that go to files.
use Rattle.std.proofs.Common.{ℕ, List, ◌++◌}
use Rattle.std.specs.Prelude.{codes}
use Rattle.c62_command.specs.CommandLine.{Ask, Listing, Picture, ListingPicture, PacketsPicture, SerialReport}
use Rattle.c62_command.specs.CommandLine.{PacketReport, StandingReport, FlightReport, Adoption, Reaching, Verdicts}
use Rattle.c62_command.specs.CommandLine.{Document, LoopListing, LoopPicture, LoopReport, LoopVerdicts}
use Rattle.c62_answer.specs.declared.outcome.Outcome.TheVariants.{Done, Drained, NotSame, Breached, Looped}
use Rattle.c62_printing.specs.Printing.{prints}
use Rattle.c62_report.specs.Report.{serial_report, packet_report}
use Rattle.c62_report.specs.Flight.{flight_report}
use Rattle.c62_answer.specs.declared.outcome.Outcome.{Outcome}
use Rattle.c62_answer.specs.Memory.{AnswersEndWithMemory, HasItsMemory}
use Rattle.c62_answer.specs.Run.{Documents, IsTextAnswer, serial_document, packet_document, flight_document}
use Rattle.c62_op.specs.declared.set.InstructionSet.{InstructionSet}

-- so does the document of a run
document_ends : (isa : InstructionSet) (ask : Ask) (outcome : Outcome) (text told answer : List ℕ)
    (is : IsTextAnswer isa ask outcome text told)
    → Documents isa ask outcome text told is answer → HasItsMemory ask answer
document_ends isa (SerialReport course settings apart) outcome text told answer is document =
    let run = is.reported in
    (serial_document is.program run.chain run.final settings document.counted, run.final, document.document)
document_ends isa (PacketReport packing course settings) outcome text told answer is document =
    let run = is.reported.reported in (
      packet_document (codes "run") is.packets run.chain run.cycles run.final settings document.counted,
      run.final,
      document.document,
    )
document_ends isa (StandingReport form course settings) outcome text told answer is document =
    let run = is.reported in (
      packet_document (codes "sim") is.packets run.chain run.cycles run.final settings document.counted,
      run.final,
      document.document,
    )
document_ends isa (FlightReport course from settings) outcome text told answer is document =
    let run = is.flown in (
      flight_document (codes "exec") is.labels run.stop run.cycles run.final settings document.counted,
      run.final,
      document.document,
    )
document_ends isa (LoopReport verbose packing trips apart course settings)
    (Looped lines has) text told answer is document =
    let run = is.flown in (
      flight_document (codes "run") is.begins.labels run.stop run.cycles run.final settings document.counted,
      run.final,
      document.document,
    )
document_ends isa (LoopReport verbose packing trips apart course settings) Done text told answer is document = absurd is
document_ends isa (LoopReport verbose packing trips apart course settings)
    (Drained added) text told answer is document =
    absurd is
document_ends isa (LoopReport verbose packing trips apart course settings) NotSame text told answer is document =
    absurd is
document_ends isa (LoopReport verbose packing trips apart course settings)
    (Breached breach) text told answer is document =
    absurd is
document_ends isa (LoopListing verbose packing trips apart) outcome text told answer is document = tt
document_ends isa (LoopPicture drawing packing trips apart) outcome text told answer is document = tt
document_ends isa (Listing packing) outcome text told answer is document = tt
document_ends isa (Picture showing) outcome text told answer is document = tt
document_ends isa (ListingPicture showing) outcome text told answer is document = tt
document_ends isa (PacketsPicture showing) outcome text told answer is document = tt
document_ends isa (Adoption drain) outcome text told answer is document = tt
document_ends isa (Verdicts form) outcome text told answer is document = tt
document_ends isa (LoopVerdicts trips apart) outcome text told answer is document = tt
document_ends isa (Document ask) outcome text told answer is document = absurd is
document_ends isa (Reaching name ask) outcome text told answer (taken, is_taken, is) document =
    document_ends isa ask outcome taken told answer is document

pub ends_with_memory : (isa : InstructionSet) → AnswersEndWithMemory isa
ends_with_memory isa (SerialReport course settings apart) outcome text answer is =
    let told = is.reported in
    (serial_report told.chain told.final ++ prints told.final settings ++ told.table, told.final, told.report)
ends_with_memory isa (PacketReport packing course settings) outcome text answer is =
    let told = is.reported.reported in (
      packet_report told.chain told.cycles told.final ++ prints told.final settings ++ told.table,
      told.final,
      told.report,
    )
ends_with_memory isa (StandingReport form course settings) outcome text answer is =
    let told = is.reported in (
      packet_report told.chain told.cycles told.final ++ prints told.final settings ++ told.table,
      told.final,
      told.report,
    )
ends_with_memory isa (FlightReport course from settings) outcome text answer is =
    let told = is.flown in (
      flight_report told.stop told.cycles told.final ++ prints told.final settings ++ told.table,
      told.final,
      told.report,
    )
ends_with_memory isa (LoopReport verbose packing trips apart course settings) (Looped lines has) text answer is =
    let told = is.flown in (
      flight_report told.stop told.cycles told.final ++ prints told.final settings ++ told.table,
      told.final,
      told.report,
    )
ends_with_memory isa (LoopReport verbose packing trips apart course settings) Done text answer is = absurd is
ends_with_memory isa (LoopReport verbose packing trips apart course settings) (Drained added) text answer is = absurd is
ends_with_memory isa (LoopReport verbose packing trips apart course settings) NotSame text answer is = absurd is
ends_with_memory isa (LoopReport verbose packing trips apart course settings) (Breached breach) text answer is =
    absurd is
ends_with_memory isa (LoopListing verbose packing trips apart) outcome text answer is = tt
ends_with_memory isa (LoopPicture drawing packing trips apart) outcome text answer is = tt
ends_with_memory isa (Listing packing) outcome text answer is = tt
ends_with_memory isa (Picture showing) outcome text answer is = tt
ends_with_memory isa (ListingPicture showing) outcome text answer is = tt
ends_with_memory isa (PacketsPicture showing) outcome text answer is = tt
ends_with_memory isa (Adoption drain) outcome text answer is = tt
ends_with_memory isa (Verdicts form) outcome text answer is = tt
ends_with_memory isa (LoopVerdicts trips apart) outcome text answer is = tt
ends_with_memory isa (Reaching name ask) outcome text answer (taken, is_taken, is) =
    ends_with_memory isa ask outcome taken
    answer is
ends_with_memory isa (Document ask) outcome text answer (told, is, document) =
    document_ends isa ask outcome text told answer is
    document
