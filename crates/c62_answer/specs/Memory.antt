-- Answers end with the bytes of memory that go to files (docs/COMMANDS.md, "Files").
use Rattle.std.specs.Prelude.{◌≡◌, ℕ, List, ◌++◌}
use Rattle.c62_command.specs.declared.setting.Setting.{Setting as Given}
use Rattle.c62_command.specs.CommandLine.{Ask, SerialReport, PacketReport, StandingReport, FlightReport, LoopReport, Reaching, Document}
use Rattle.c62_printing.specs.Dumping.{dumps}
use Rattle.c62_serial.specs.State.{Machine}
use Rattle.c62_answer.specs.declared.outcome.Outcome.{Outcome}
use Rattle.c62_answer.specs.Run.{IsAnswer}
use Rattle.c62_op.specs.declared.set.InstructionSet.{InstructionSet}

-- behind the report stand the bytes that these settings write to files, of the machine at the end
abbrev pub EndsWithMemory : List Given → List ℕ → Type 0
EndsWithMemory settings answer = (report : List ℕ) × (final : Machine) × (answer ≡ report ++ dumps final settings)

-- so it is with the answer of a run
abbrev pub HasItsMemory : Ask → List ℕ → Type 0
HasItsMemory (SerialReport course settings apart) answer = EndsWithMemory settings answer
HasItsMemory (PacketReport packing course settings) answer = EndsWithMemory settings answer
HasItsMemory (StandingReport form course settings) answer = EndsWithMemory settings answer
HasItsMemory (FlightReport course from settings) answer = EndsWithMemory settings answer
HasItsMemory (LoopReport verbose packing trips apart course settings) answer = EndsWithMemory settings answer
HasItsMemory (Reaching name ask) answer = HasItsMemory ask answer
HasItsMemory (Document ask) answer = HasItsMemory ask answer
HasItsMemory _ answer = Unit {0}

abbrev pub AnswersEndWithMemory : InstructionSet → Type 0
AnswersEndWithMemory isa = (ask : Ask) (outcome : Outcome) (text answer : List ℕ) → IsAnswer isa ask outcome text answer → HasItsMemory ask answer
