-- What is told of the accesses that fault in a strict run (docs/REPORT.md, "Strict runs").
use Rattle.std.specs.Prelude.{◌≡◌, ◌≢◌, ◌↔◌, ◌⊎◌, ℕ, Bool, true, false, List, [], Contains, Option, IsTrue}
use Rattle.std.specs.List.{flat_map}
use Rattle.clap.specs.Words.{Text}
use Rattle.c62_read.specs.Block.{Serial}
use Rattle.c62_read.specs.Program.{Name}
use Rattle.c62_serial.specs.State.{Machine}
use Rattle.c62_packet.specs.Packed.{Packed}
use Rattle.c62_adopt.specs.Answer.{IsCoded, code_in, code_read}
use Rattle.c62_flight.specs.Text.{Text as FlightText}
use Rattle.c62_rows.specs.declared.fault.RowsFault.{RowsFault}
use Rattle.c62_rows.specs.declared.fault.RowsFault.TheVariants.{Memory as NoPlace}
use Rattle.c62_rows.specs.Text.{IsTextFrom, RefusesFrom}
use Rattle.c62_reach.specs.Taken.{IsTaken}
use Rattle.c62_faulted.specs.declared.fault.Fault.{Fault}
use Rattle.c62_faulted.specs.Faulted.{FindsFaults, has_line}
use Rattle.c62_faulted.specs.Sentence.{fault_text}
use Rattle.c62_faulted_packets.specs.Chain.{FindsPacketFaults}
use Rattle.c62_command.specs.declared.setting.Setting.{Setting}
use Rattle.c62_command.specs.declared.command.Course.{Course}
use Rattle.c62_command.specs.declared.command.Form.{Form}
use Rattle.c62_command.specs.declared.command.Packing.{Packing}
use Rattle.c62_command.specs.declared.flight.FlightCourse.{FlightCourse}
use Rattle.c62_command.specs.CommandLine.{Ask, SerialReport, PacketReport, StandingReport, FlightReport, Reaching, Document}
use Rattle.c62_answer.specs.declared.outcome.Outcome.{Outcome}
use Rattle.c62_answer.specs.Texts.{IsNoProgram, IsUncoded, IsUnreached, SaysNoPackets, SaysPackets, SaysProgram}
use Rattle.c62_answer.specs.Run.{IsFlown, IsPacketReport, IsRunReport, IsSerialReport, TellsFlightFaults, TellsIf, TellsRunBy}
use Rattle.c62_op.specs.declared.set.InstructionSet.{InstructionSet}

-- ---- runs

-- of a program's serial run on this course
abbrev pub TellsRun : List Serial → List Setting → Course → (more : List ℕ) → Type 0
TellsRun program settings course more = TellsRunBy (λ opening faults. FindsFaults program opening course.blocks faults) settings more

-- of such a run of packets as they stand
abbrev pub TellsPackets : List Packed → List Setting → Course → (more : List ℕ) → Type 0
TellsPackets packets settings course more = TellsRunBy (λ opening faults. FindsPacketFaults packets opening course.blocks faults) settings more

-- ---- texts

-- the text says a program, of whose run this is told, or none, and nothing is told
abbrev pub TellsProgram : InstructionSet → List Setting → Course → (text more : List ℕ) → Type 0
TellsProgram isa settings course text more =
    ((program : List Serial) × SaysProgram isa text program × TellsRun program settings course more)
    ⊎ ((message : List ℕ) × IsNoProgram isa text message × (more ≡ []))

-- so it is with packets of this form
abbrev pub TellsStanding : InstructionSet → Form → List Setting → Course → (text more : List ℕ) → Type 0
TellsStanding isa form settings course text more =
    ((packets : List Packed) × SaysPackets isa form text packets × TellsPackets packets settings course more)
    ⊎ ((message : List ℕ) × SaysNoPackets isa form text message × (more ≡ []))

-- these lines of code are rows, of whose run in flight this is told, or they are refused, and nothing is told
abbrev pub TellsRows : InstructionSet → Option Text → List Setting → FlightCourse → (code more : List ℕ) → Type 0
TellsRows isa from settings course code more =
    ((flying : FlightText) × (first : ℕ) × IsTextFrom isa code from flying first × TellsFlightFaults flying first settings course more)
    ⊎ ((fault : RowsFault) × (fault ≢ NoPlace) × RefusesFrom isa code from fault × (more ≡ []))

-- the text has such code, or none, and nothing is told
abbrev pub TellsCode : InstructionSet → Option Text → List Setting → FlightCourse → (text more : List ℕ) → Type 0
TellsCode isa from settings course text more =
    (IsCoded isa text × TellsRows isa from settings course (code_in (code_read isa text)) more)
    ⊎ ((message : List ℕ) × IsUncoded isa text message × (more ≡ []))

-- so it is with what is taken of the text from this label on
abbrev pub TellsTaken : InstructionSet → (name : Text) → Option Text → List Setting → FlightCourse → (text more : List ℕ) → Type 0
TellsTaken isa name from settings course text more =
    ((taken : List ℕ) × IsTaken isa name text taken × TellsCode isa from settings course taken more)
    ⊎ ((message : List ℕ) × IsUnreached isa name text message × (more ≡ []))

-- ---- what is asked

abbrev pub TellsStrict : InstructionSet → List Setting → Course → (text more : List ℕ) → Type 0
TellsStrict isa settings course text more = TellsIf course.strict (TellsProgram isa settings course text more) more

-- What is told of the faults of what is asked of a text. Packets of a serial text leave what it leaves, so they have its faults.
abbrev pub TellsFaults : InstructionSet → Ask → (text more : List ℕ) → Type 0
TellsFaults isa (SerialReport course settings apart) text more = TellsStrict isa settings course text more
TellsFaults isa (PacketReport packing course settings) text more = TellsStrict isa settings course text more
TellsFaults isa (StandingReport form course settings) text more = TellsIf course.strict (TellsStanding isa form settings course text more) more
TellsFaults isa (FlightReport course from settings) text more = TellsIf course.strict (TellsCode isa from settings course text more) more
TellsFaults isa (Reaching name (FlightReport course from settings)) text more =
    TellsIf course.strict (TellsTaken isa name from settings course text more) more
TellsFaults isa (Document ask) text more = TellsFaults isa ask text more
TellsFaults isa ask text more = more ≡ []

-- ---- the law

-- What is told behind a report, of memory that begins at a base, is a line for each of these faults, whose lines are those that
-- the report names.
pub record TellsReported (base : ℕ) (more : List ℕ) (final : Machine) : Type 0 where
  pub faults : List Fault
  pub told : more ≡ flat_map (fault_text base) faults
  pub lines : (line : ℕ) → IsTrue (has_line line faults) ↔ Contains final.faults line

-- so it is behind the report of a strict serial run
abbrev pub TellsItsReport : InstructionSet → List Setting → Course → Outcome → (text answer more : List ℕ) → Type 0
TellsItsReport isa settings course outcome text answer more =
    course.strict ≡ true → TellsStrict isa settings course text more
    → (report : IsSerialReport isa settings course outcome text answer)
    → TellsReported report.reported.opening.base more report.reported.final

-- and of a strict run of packets of serial text
abbrev pub TellsPackedReport : InstructionSet → Packing → List Setting → Course → Outcome → (text answer more : List ℕ) → Type 0
TellsPackedReport isa packing settings course outcome text answer more =
    course.strict ≡ true → TellsStrict isa settings course text more
    → (report : IsRunReport isa packing settings course outcome text answer)
    → TellsReported report.reported.reported.opening.base more report.reported.reported.final

-- so it is with what is told of packets as they stand, and their report
abbrev pub TellsPacketReport : List Packed → List Setting → Course → Outcome → (answer more : List ℕ) → Type 0
TellsPacketReport packets settings course outcome answer more =
    TellsPackets packets settings course more → (report : IsPacketReport packets settings course outcome answer)
    → TellsReported report.opening.base more report.final

-- and of packets in flight
abbrev pub TellsFlightReport : FlightText → List (Name × ℕ) → (first : ℕ) → List Setting → FlightCourse → Outcome → (answer more : List ℕ) → Type 0
TellsFlightReport flying labels first settings course outcome answer more =
    TellsFlightFaults flying first settings course more → (report : IsFlown flying labels first settings course outcome answer)
    → TellsReported report.opening.base more report.final
