-- Documents of runs of texts, from what each step gave.
use Rattle.std.proofs.Common.{◌≡◌, ℕ, Bool, List, Option, None, Ok, Err, Vec, Global, subst}
use Rattle.std.specs.Prelude.{codes}
use Rattle.clap.specs.Words.{Text as Name}
use Rattle.c62_op.specs.declared.register.Reg.{Reg}
use Rattle.c62_read.specs.Block.{Serial}
use Rattle.c62_read.specs.Program.{Name as Label}
use Rattle.c62_packet.specs.Packed.{Packed}
use Rattle.c62_adopt.specs.Answer.{code_read}
use Rattle.c62_rows.specs.declared.text.Begun.{Begun}
use Rattle.c62_rows.specs.Rows.{text_of}
use Rattle.c62_rows.specs.Told.{BeginsAs}
use Rattle.c62_command.specs.CommandLine.{Document, FlightReport, LoopReport, PacketReport, SerialReport}
use Rattle.c62_command.specs.CommandLine.{StandingReport}
use Rattle.c62_command.specs.declared.command.Course.{Course}
use Rattle.c62_command.specs.declared.command.Form.{Form}
use Rattle.c62_command.specs.declared.command.Packing.{Packing}
use Rattle.c62_command.specs.declared.flight.FlightCourse.{FlightCourse}
use Rattle.c62_command.specs.declared.setting.Setting.{Setting as Given}
use Rattle.c62_pipeline.specs.declared.written.Pipelining.{Pipelining}
use Rattle.c62_answer.specs.declared.failure.Failure.{Failure}
use Rattle.c62_answer.specs.declared.outcome.Outcome.{Outcome}
use Rattle.c62_answer.specs.declared.outcome.Breach.{Breach}
use Rattle.c62_answer.specs.declared.outcome.Outcome.TheVariants.{Looped}
use Rattle.c62_answer.specs.Looped.{IsLooped, IsReadAgain}
use Rattle.c62_answer.specs.Run.{Gives, IsAnswer, IsToldBeside, RefusesLooped, TellsOfFlight, TellsOfPackets, TellsOfRun}
use Rattle.c62_answer.specs.Run.{breach_of}
use Rattle.c62_answer.specs.Schedule.{AreScheduled}
use Rattle.c62_answer.specs.Texts.{SaysPackets, SaysProgram}
use Rattle.c62_answer.proofs.Answering.{flight_text}
use Rattle.c62_answer.proofs.Schedules.{runs_serially}
use Rattle.c62_answer.proofs.Documented.{refused_too}
use Rattle.c62_answer.proofs.Looping.{no_run_loops}
use Rattle.c62_op.specs.declared.set.InstructionSet.{InstructionSet}

pub serial_documented : (isa : InstructionSet) (course : Course) (settings : List Given) (apart : List Reg)
    (outcome : Outcome)
    (text answer : List ℕ) (program : List Serial) → SaysProgram isa text program
    → TellsOfRun program settings course outcome answer
    → IsAnswer isa (Document (SerialReport course settings apart)) outcome text answer
serial_documented isa course settings apart outcome text answer program says (report, is, document) =
    (report, record { program = program; says = says; reported = is }, document)

pub run_documented : (isa : InstructionSet) (packing : Packing) (course : Course) (settings : List Given)
    (outcome : Outcome)
    (text answer : List ℕ) (program : List Serial) (packets : List Packed) → SaysProgram isa text program
    → AreScheduled packing program packets → TellsOfPackets (codes "run") packets settings course outcome answer
    → IsAnswer isa (Document (PacketReport packing course settings)) outcome text answer
run_documented isa packing course settings outcome text answer program packets says packed (report, is, document) = (
  report,
  record {
    program = program;
    says = says;
    packets = packets;
    packed = packed;
    reported = record {
      reported = is;
      serial = runs_serially packing program packets is.opening is.final course.blocks is.cycles is.chain packed
          is.begin.sound is.run;
    };
  },
  document,
)

pub sim_documented : (isa : InstructionSet) (form : Form) (course : Course) (settings : List Given) (outcome : Outcome)
    (text answer : List ℕ)
    (packets : List Packed) → SaysPackets isa form text packets
    → TellsOfPackets (codes "sim") packets settings course outcome answer
    → IsAnswer isa (Document (StandingReport form course settings)) outcome text answer
sim_documented isa form course settings outcome text answer packets says (report, is, document) =
    (report, record { packets = packets; read = says; reported = is }, document)

pub exec_documented : (isa : InstructionSet) (course : FlightCourse) (named from : Option Name) (settings : List Given)
    (outcome : Outcome)
    (text code answer : List ℕ) (begun : Begun) → named ≡ from
    → code_read isa text ≡ Ok code → BeginsAs isa code named begun
    → TellsOfFlight (codes "exec") (text_of begun.rows) begun.labels.entries begun.first settings course outcome answer
    → IsAnswer isa (Document (FlightReport course from settings)) outcome text answer
unfolding flight_text
exec_documented isa course named from settings outcome text code answer begun same is begins (report, flown, document) =
    (report, flight_text isa course named from settings outcome text code report begun same is begins flown, document)

-- ---- loops

pub no_run_loops_documented : (isa : InstructionSet) (verbose : Bool) (packing : Packing) (trips : List (Name × ℕ))
    (apart : List Reg)
    (course : FlightCourse) (settings : List Given) (text : List ℕ) (f : Failure) → RefusesLooped isa trips text f
    → Gives isa (Document (LoopReport verbose packing trips apart course settings)) text (Err f)
no_run_loops_documented isa verbose packing trips apart course settings text f refused =
    refused_too isa (LoopReport verbose packing trips apart course settings) text f
    (no_run_loops isa verbose packing trips apart course settings text f refused)

pub loops_documented : (isa : InstructionSet) (verbose : Bool) (packing : Packing) (trips : List (Name × ℕ))
    (apart : List Reg)
    (course : FlightCourse) (settings : List Given) (told : Vec ℕ Global) (text answer : List ℕ) (program : List Serial)
    (written : Pipelining) (begun : Begun) (outcome : Outcome) (has : Option Breach)
    → has ≡ breach_of outcome → IsLooped isa packing trips apart text program written
    → IsReadAgain isa program written begun
    → IsToldBeside verbose program written (text_of begun.rows) begun.first course settings told.items
    → TellsOfFlight (codes "run") (text_of begun.rows) begun.labels.entries begun.first settings course outcome answer
    → IsAnswer isa (Document (LoopReport verbose packing trips apart course settings)) (Looped told has) text
    answer
loops_documented isa verbose packing trips apart course settings told text answer program written begun outcome has ends
    looped again beside tells =
    let moved = subst (λ (labels : List (Label × ℕ)).
    TellsOfFlight (codes "run") (text_of begun.rows) labels begun.first settings course outcome answer) again.named
    tells in (
      moved.0,
      record {
        program = program;
        written = written;
        looped = looped;
        read = again.read;
        first = begun.first;
        begins = again.begins;
        flying = text_of begun.rows;
        lined = again.lined;
        beside = beside;
        outcome = outcome;
        flown = moved.1;
        ends = ends;
      },
      moved.2,
    )
