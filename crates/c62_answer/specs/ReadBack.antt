-- What `pack` writes is read back, and run as the program that was packed (docs/LISTING.md, docs/REPORT.md).
use Rattle.std.specs.Prelude.{ℕ, List}
use Rattle.c62_read.specs.Block.{Serial}
use Rattle.c62_serial.specs.Chain.{RunsProgram}
use Rattle.c62_packet.specs.Packed.{Packed}
use Rattle.c62_packet.specs.Alike.{AreAlike}
use Rattle.c62_pipe.specs.Alike.{HaveTheSameChain}
use Rattle.c62_listing_reader.specs.Faults.{IsRead}
use Rattle.c62_listing_reader.specs.Laws.{AreShown}
use Rattle.c62_command.specs.declared.setting.Setting.{Setting}
use Rattle.c62_command.specs.declared.command.Course.{Course}
use Rattle.c62_command.specs.declared.command.Packing.{Packing}
use Rattle.c62_command.specs.declared.command.Form.TheVariants.{Listed}
use Rattle.c62_answer.specs.declared.outcome.Outcome.{Outcome}
use Rattle.c62_answer.specs.Run.{IsPackedText, IsStandingReport}
use Rattle.c62_op.specs.declared.set.InstructionSet.{InstructionSet}

-- The report of a listing is one of a program, of which these packets were packed: they run as those that are read do, but
-- for the lines that faulted, which are those of the same places, and leave what the program leaves.
pub record IsReportOf (isa : InstructionSet) (program : List Serial) (packets : List Packed) (settings : List Setting) (course : Course) (outcome : Outcome) (answer report : List ℕ)
    (sim : IsStandingReport isa Listed settings course outcome answer report) : Type 0 where
  pub same : HaveTheSameChain sim.packets packets sim.reported.opening sim.reported.opening course.blocks sim.reported.chain sim.reported.cycles sim.reported.final
  pub serial : RunsProgram program sim.reported.opening course.blocks sim.reported.chain same.left

-- Packets of a program are read back of their listing: a listing shows them whole, what is read of it are packets that are
-- alike but for lines, and whatever is reported of it, from some settings and under some limit, is a report of the program.
pub record AreReadBack (isa : InstructionSet) (program : List Serial) (packets : List Packed) (answer : List ℕ) : Type 0 where
  pub shown : AreShown isa packets
  pub others : List Packed
  pub read : IsRead isa answer others
  pub alike : AreAlike packets others
  pub reports : (settings : List Setting) (course : Course) (outcome : Outcome) (report : List ℕ) (sim : IsStandingReport isa Listed settings course outcome answer report)
      → IsReportOf isa program packets settings course outcome answer report sim

-- so it is of what is packed of a text
abbrev pub IsReadBack : InstructionSet → Packing → List ℕ → List ℕ → Type 0
IsReadBack isa packing text answer = (packed : IsPackedText isa packing text answer) → AreReadBack isa packed.program packed.packets answer
