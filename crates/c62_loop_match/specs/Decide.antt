-- What is asked of packets that pipeline a loop, part by part.
use Rattle.std.specs.Prelude.{◌≡◌, ℕ, ◌+◌, ◌<◌, ◌≤◌, Bool, List, ◌++◌, map}
use Rattle.std.specs.List.{flat_map}
use Rattle.c62_insn.specs.declared.insn.Insn.{Insn}
use Rattle.c62_packet.specs.declared.placed.Placed.{Placed}
use Rattle.c62_packet.specs.Packed.{AreDrained}
use Rattle.c62_read.specs.declared.block.SerialInsn.{SerialInsn}
use Rattle.c62_loop.specs.Counter.{work_of}
use Rattle.c62_loop.specs.Loop.{Region, Pipelined, IsCountedLoop, IsPipelined, kernel_row, epilog_row}
use Rattle.c62_loop.specs.Stage.{Schedule, KeepDistances, placed_of}
use Rattle.c62_loop.specs.Whole.{Control, IsPipelining, StandFor, AreStagesOf, insns_in}
use Rattle.c62_loop_match.specs.declared.decision.Layout.{Layout}
use Rattle.c62_loop_match.specs.declared.decision.Works.{Works}
use Rattle.c62_loop_match.specs.Layout.{IsLaidOut}
use Rattle.c62_loop_match.specs.Members.{AreOneSet}

-- prolog, first pass of the kernel, and epilog, behind no pass and behind one
pub record IsLayout (loop : Pipelined) (layout : Layout) : Type 0 where
  pub prolog : IsLaidOut loop.text loop.first loop.prolog 0 layout.prolog
  pub kernel : IsLaidOut loop.text (kernel_row loop) loop.kernel layout.prolog.end layout.kernel
  pub epilog : IsLaidOut loop.text (epilog_row loop) loop.epilog layout.prolog.end layout.epilog
  pub after : IsLaidOut loop.text (epilog_row loop) loop.epilog layout.kernel.end layout.after

-- the instructions above the label, and the rest of the region without its counter and the branches that test it
pub record IsWork (region : Region) (works : Works) : Type 0 where
  pub before : works.before.items ≡ region.before
  pub body : works.body.items ≡ work_of region.counter region.body
  pub behind : works.behind.items ≡ work_of region.counter region.behind

pub record HoldsWork (before body behind : List SerialInsn) (schedule : Schedule) (most : ℕ) : Type 0 where
  pub stand_before : StandFor before schedule.before
  pub stand_body : AreStagesOf most body schedule.stages
  pub stand_behind : StandFor behind schedule.behind

-- all has landed when the epilog is over behind one pass
pub record HasLanded (layout : Layout) : Type 0 where
  pub prolog : AreDrained layout.after.end layout.prolog.issued.items
  pub kernel : AreDrained layout.after.end layout.kernel.issued.items
  pub epilog : AreDrained layout.after.end layout.after.issued.items

pub record Fits (layout : Layout) (before body behind : List SerialInsn) (schedule : Schedule) (most : ℕ) : Type 0 where
  pub interval : layout.prolog.end + schedule.interval ≡ layout.kernel.end
  pub work : HoldsWork before body behind schedule most
  pub landed : HasLanded layout

-- part by part the rows hold these
pub record HoldThese (layout : Layout) (prolog kernel epilog : List Placed) : Type 0 where
  pub prolog_is : AreOneSet layout.prolog.issued.items prolog
  pub kernel_is : AreOneSet layout.kernel.issued.items kernel
  pub epilog_is : AreOneSet layout.epilog.issued.items epilog

-- the rows hold the schedule and the control, and nothing else
pub record HoldsRows (layout : Layout) (schedule : Schedule) (control : Control) : Type 0 where
  pub prolog : AreOneSet layout.prolog.issued.items (control.early ++ (schedule.before ++ flat_map (λ stage. stage.early) schedule.stages))
  pub kernel : AreOneSet layout.kernel.issued.items (control.kernel ++ map (λ stage. stage.kernel) schedule.stages)
  pub epilog : AreOneSet layout.epilog.issued.items (flat_map (λ stage. stage.late) schedule.stages ++ schedule.behind)

-- in one pass to three more than prolog and epilog hold iterations all distances are kept
abbrev pub Keeps : (Insn → Insn → Bool) → List SerialInsn → List SerialInsn → List SerialInsn → Schedule → ℕ → Type 0
Keeps promised before body behind schedule most = (passes : ℕ) → 0 < passes → passes ≤ most + 3
    → KeepDistances promised (record { before = insns_in before; body = insns_in body; behind = insns_in behind }) (most + passes) (placed_of schedule (most + passes) passes)

-- The loop counts, its packets stand in their text, and they pipeline it: so they do what the serial loop does, as `pipelined_for_all_trips` says.
pub record Decided (promised : Insn → Insn → Bool) (region : Region) (loop : Pipelined) (most : ℕ) : Type 0 where
  pub counts : IsCountedLoop region
  pub stands : IsPipelined loop
  pub pipelines : IsPipelining promised region loop most
