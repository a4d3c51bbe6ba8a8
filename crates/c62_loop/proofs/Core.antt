-- A path of a pipelined loop, its instances, and what is known of them, where the kernel is passed so often.
use Rattle.std.proofs.Common.{Bool, ℕ, ◌+◌, List, ◌++◌}
use Rattle.std.specs.Prelude.{◌↔◌, Contains}
use Rattle.c62_insn.specs.declared.insn.Insn.{Insn}
use Rattle.c62_packet.specs.declared.placed.Placed.{Placed}
use Rattle.c62_packet.specs.Packed.{AreDrained}
use Rattle.c62_flight.specs.Issued.{issued_on}
use Rattle.c62_loop.specs.Counter.{work_of}
use Rattle.c62_loop.specs.Loop.{Region, loop_path, Pipelined, interval, visits_of, cycles_of}
use Rattle.c62_loop.specs.Stage.{KeepDistances}
use Rattle.c62_loop.specs.Whole.{StandFor, work_insns, Control, IsSteering, ComeBehind}
use Rattle.c62_loop.proofs.PassControl.{control_of}

pub record Core (promised : Insn → Insn → Bool) (region : Region) (loop : Pipelined) (most passes : ℕ) : Type 0 where
  pub control : Control
  -- what stands above the label, and the work of the loop in serial order
  pub before : List Placed
  pub rest : List Placed
  pub stand_before : StandFor region.before before
  pub stand_rest : StandFor (work_of region.counter (loop_path region (most + passes))) rest
  pub steering : IsSteering region.counter loop most control
  pub begins : ComeBehind region.counter before (control.early ++ control.kernel)
  pub keeps : KeepDistances promised (work_insns region) (most + passes) (before ++ rest)
  pub members : (p : Placed) → Contains (issued_on loop.text (visits_of loop passes)) p
      ↔ Contains (before ++ (control_of control (interval loop) passes ++ rest)) p
  pub drained : AreDrained (cycles_of loop 1) (issued_on loop.text (visits_of loop 1))
