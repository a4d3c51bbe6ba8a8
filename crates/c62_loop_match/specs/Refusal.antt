-- Why packets that hold a loop don't pipeline it (docs/CHECK.md, "How it is decided").
use Rattle.std.specs.Prelude.{◌≡◌, ◌⊎◌, ℕ, ◌+◌, ◌++◌, Bool, List, map, Contains, IsTrue}
use Rattle.c62_insn.specs.declared.insn.Insn.{Insn}
use Rattle.c62_packet.specs.declared.placed.Placed.{Placed}
use Rattle.c62_loop.specs.Loop.{Region, Pipelined, EndsPass}
use Rattle.c62_loop.specs.Stage.{Schedule}
use Rattle.c62_loop.specs.Whole.{Control, work_insns}
use Rattle.c62_loop_match.specs.declared.early.Early.{Early as EarlyRead}
use Rattle.c62_loop_match.specs.declared.refusal.Refusal.{Refusal}
use Rattle.c62_loop_match.specs.declared.refusal.Refusal.TheVariants.{Early, Branch, Other}
use Rattle.c62_loop_match.specs.Begin.{HoldEarlyStart}
use Rattle.c62_loop_match.specs.Early.{IsEarly}
use Rattle.c62_loop_match.specs.Form.{is_test}
use Rattle.c62_loop_match.specs.Reading.{IsReading, entry_unlined, schedule_unlined}
use Rattle.c62_loop_match.specs.Decide.{HoldsWork, HoldsRows}
use Rattle.c62_loop_match.specs.declared.decision.Layout.{Layout}
use Rattle.c62_read.specs.declared.block.SerialInsn.{SerialInsn}
use Rattle.c62_loop_match.specs.declared.distances.Distances.{Distances}
use Rattle.c62_loop_match.specs.declared.distances.Distances.TheVariants.{Kept, TooEarly, Unlike}

-- The packets hold the loop, and in them an instance comes too early behind another one, or a step or branch behind one of those that
-- stand above the label.
pub record HoldsEarly (promised : Insn → Insn → Bool) (region : Region) (loop : Pipelined) (most : ℕ) (early : EarlyRead) : Type 0 where
  pub schedule : Schedule
  pub control : Control
  pub reads : IsReading region loop most schedule control
  pub early_is : IsEarly promised (work_insns region) schedule most early
      ⊎ HoldEarlyStart region.counter schedule.before (control.early ++ control.kernel) early

-- They hold it, and the prolog or the kernel's first pass has a branch on this line that tests the counter, and goes to the kernel at the
-- end of no pass.
pub record IsAstray (region : Region) (loop : Pipelined) (most line : ℕ) : Type 0 where
  pub schedule : Schedule
  pub control : Control
  pub reads : IsReading region loop most schedule control
  pub branch : Placed
  pub among : Contains (control.early ++ control.kernel) branch
  pub tests : IsTrue (is_test region.counter loop.label branch.insn)
  pub astray : (pass : ℕ) → EndsPass loop pass branch → ⊥
  pub line_is : line ≡ branch.line

-- what is told holds
abbrev pub Refuses : (Insn → Insn → Bool) → Region → Pipelined → ℕ → Refusal → Type 0
Refuses promised region loop most (Early early) = HoldsEarly promised region loop most early
Refuses promised region loop most (Branch line) = IsAstray region loop most line
Refuses promised region loop most Other = Unit {0}

-- The rows hold the schedule, whatever lines it has, and the control.
pub record Reads (layout : Layout) (before body behind : List SerialInsn) (schedule : Schedule) (control : Control) (most : ℕ) : Type 0 where
  pub between : layout.prolog.end + schedule.interval ≡ layout.kernel.end
  pub work : HoldsWork (map entry_unlined before) (map entry_unlined body) (map entry_unlined behind) (schedule_unlined schedule) most
  pub rows : HoldsRows layout schedule control

-- what is told of distances
abbrev pub refused_for : Distances → Refusal
refused_for (TooEarly early) = Early early
refused_for Kept = Other
refused_for Unlike = Other
