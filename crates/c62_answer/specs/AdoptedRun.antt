-- What `sim --packets` reports of a text is what `sim` reports of the listing that `adopt` writes of it (docs/REPORT.md, "The
-- commands").
use Rattle.std.specs.Prelude.{ℕ, false, List}
use Rattle.c62_packet.specs.Packed.{Packed}
use Rattle.c62_listing_reader.specs.Faults.{IsRead}
use Rattle.c62_pipe.specs.Alike.{HaveTheSameChain}
use Rattle.c62_command.specs.declared.setting.Setting.{Setting}
use Rattle.c62_command.specs.declared.command.Course.{Course}
use Rattle.c62_command.specs.declared.command.Form.TheVariants.{Written}
use Rattle.c62_answer.specs.declared.outcome.Outcome.{Outcome}
use Rattle.c62_answer.specs.Run.{IsAdoptedText, IsStandingReport}
use Rattle.c62_op.specs.declared.set.InstructionSet.{InstructionSet}

-- A listing says packets that run as those of which this is a report: the same blocks in as many cycles, and the same is left, but for
-- the lines that faulted, which are those of the same places.
pub record RunsAlike (isa : InstructionSet) (settings : List Setting) (course : Course) (outcome : Outcome) (text report : List ℕ)
    (sim : IsStandingReport isa Written settings course outcome text report) (listing : List ℕ) : Type 0 where
  pub packets : List Packed
  pub read : IsRead isa listing packets
  pub same : HaveTheSameChain sim.packets packets sim.reported.opening sim.reported.opening course.blocks sim.reported.chain sim.reported.cycles sim.reported.final

-- so does the listing of a text that is adopted as it stands
abbrev pub RunsAsItsListing : InstructionSet → List ℕ → Type 0
RunsAsItsListing isa text = (settings : List Setting) (course : Course) (outcome : Outcome) (report listing : List ℕ)
    (sim : IsStandingReport isa Written settings course outcome text report) → IsAdoptedText isa false 0 text listing → RunsAlike isa settings course outcome text report sim listing
