-- What packets hold of a loop, under lines of their own (docs/CHECK.md, "How it is decided").
use Rattle.std.specs.Prelude.{◌≡◌, ℕ, ◌++◌, map}
use Rattle.std.specs.List.{flat_map}
use Rattle.c62_packet.specs.declared.placed.Placed.{Placed}
use Rattle.c62_read.specs.declared.block.SerialInsn.{SerialInsn}
use Rattle.c62_flight.specs.Issued.{issued_on}
use Rattle.c62_flight.specs.Laid.{straight}
use Rattle.c62_loop.specs.Counter.{work_of}
use Rattle.c62_loop.specs.Loop.{Region, Pipelined, IsPipelined, kernel_row, epilog_row, prolog_cycles, interval}
use Rattle.c62_loop.specs.Stage.{Stage, Schedule}
use Rattle.c62_loop.specs.Whole.{Control}
use Rattle.c62_loop_match.specs.Members.{AreOneSet}
use Rattle.c62_loop_match.specs.Decide.{HoldsWork}

-- ---- without lines

abbrev pub unlined : Placed → Placed
unlined p = record { cycle = p.cycle; insn = p.insn; line = 0; unit = p.unit }

abbrev pub entry_unlined : SerialInsn → SerialInsn
entry_unlined entry = record { insn = entry.insn; line = 0 }

abbrev pub stage_unlined : Stage → Stage
stage_unlined stage = record { early = map unlined stage.early; kernel = unlined stage.kernel; late = map unlined stage.late }

abbrev pub schedule_unlined : Schedule → Schedule
schedule_unlined schedule = record {
  before = map unlined schedule.before;
  stages = map stage_unlined schedule.stages;
  behind = map unlined schedule.behind;
  interval = schedule.interval;
}

-- ---- readings

-- The rows of prolog, kernel and epilog hold this schedule and this control, and nothing else. The schedule is of the instructions
-- above the label and of the region's work, whatever lines the packets give them: each instruction of the block once in the kernel, and so often in prolog and epilog.
pub record IsReading (region : Region) (loop : Pipelined) (most : ℕ) (schedule : Schedule) (control : Control) : Type 0 where
  pub stands : IsPipelined loop
  pub same_interval : schedule.interval ≡ interval loop
  pub work : HoldsWork (map entry_unlined region.before) (map entry_unlined (work_of region.counter region.body))
      (map entry_unlined (work_of region.counter region.behind)) (schedule_unlined schedule) most
  pub prolog : AreOneSet (issued_on loop.text (straight loop.text loop.first 0 loop.prolog))
      (control.early ++ (schedule.before ++ flat_map (λ stage. stage.early) schedule.stages))
  pub kernel : AreOneSet (issued_on loop.text (straight loop.text (kernel_row loop) (prolog_cycles loop) loop.kernel))
      (control.kernel ++ map (λ stage. stage.kernel) schedule.stages)
  pub epilog : AreOneSet (issued_on loop.text (straight loop.text (epilog_row loop) (prolog_cycles loop) loop.epilog))
      (flat_map (λ stage. stage.late) schedule.stages ++ schedule.behind)
