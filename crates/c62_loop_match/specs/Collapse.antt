-- What is asked of packets that pipeline a loop and begin iterations past the last, part by part.
use Rattle.std.specs.Prelude.{◌≡◌, ℕ, ◌+◌, ◌<◌, ◌≤◌, Bool, List, ◌++◌, map, slice_get}
use Rattle.c62_insn.specs.declared.insn.Insn.{Insn}
use Rattle.c62_read.specs.declared.block.SerialInsn.{SerialInsn}
use Rattle.c62_packet.specs.declared.placed.Placed.{Placed}
use Rattle.c62_loop.specs.Loop.{Region, Pipelined, IsCountedLoop, IsPipelined}
use Rattle.c62_loop.specs.Stage.{KeepDistances, placed_of}
use Rattle.c62_loop.specs.Whole.{StandFor, insns_in}
use Rattle.c62_loop.specs.Collapsed.{IsCollapsing}
use Rattle.c62_loop_match.specs.declared.beyond.Beyond.{Beyond}
use Rattle.c62_loop_match.specs.declared.decision.Layout.{Layout}
use Rattle.c62_loop_match.specs.declared.decision.Works.{Works}
use Rattle.c62_loop_match.specs.declared.parts.Schedule.{Schedule as ScheduleRead}
use Rattle.c62_loop_match.specs.declared.path.Instance.{Instance}
use Rattle.c62_loop_match.specs.declared.path.Work.{Work}
use Rattle.c62_loop_match.specs.Beyond.{instance_in, AreBegun, AreHeld}
use Rattle.c62_loop_match.specs.Decide.{HasLanded}
use Rattle.c62_loop_match.specs.Parts.{schedule_of}
use Rattle.c62_loop_match.specs.Path.{instance, straights_of}

-- those past the end
abbrev pub past_instances : ScheduleRead → List Beyond → (passes : ℕ) → List Instance
past_instances schedule beyond passes = map (λ one. instance_in schedule.interval passes one.number (slice_get schedule.stages.items one.place)) beyond

-- all instances, those behind the others
abbrev pub all_instances : ScheduleRead → (most : ℕ) → List Beyond → (passes : ℕ) → List Instance
all_instances schedule most beyond passes = map instance (placed_of (schedule_of schedule) (most + passes) passes) ++ past_instances schedule beyond passes

-- where these are placed so, they keep their distances
abbrev pub KeepsPast : (Insn → Insn → Bool) → Work → ScheduleRead → (most : ℕ) → List Beyond → (passes : ℕ) → Type 0
KeepsPast promised work schedule most beyond passes = (placed : List Placed) → all_instances schedule most beyond passes ≡ map instance placed
    → KeepDistances promised (straights_of work) (most + passes) placed

abbrev pub KeepsAllPast : (Insn → Insn → Bool) → Work → ScheduleRead → (most deep : ℕ) → List Beyond → Type 0
KeepsAllPast promised work schedule most deep beyond = (passes : ℕ) → 0 < passes → passes ≤ deep + 3 → KeepsPast promised work schedule most beyond passes

-- the work, with this behind it
pub record IsLonger (works : Works) (past : List SerialInsn) (longer : Works) : Type 0 where
  pub before : longer.before.items ≡ works.before.items
  pub body : longer.body.items ≡ works.body.items
  pub behind : longer.behind.items ≡ works.behind.items ++ past

pub record FitsPast (layout : Layout) (works : Works) (schedule : ScheduleRead) (beyond : List Beyond) (most deep : ℕ) : Type 0 where
  pub interval : layout.prolog.end + schedule.interval ≡ layout.kernel.end
  pub before : StandFor works.before.items schedule.before.items
  pub held : AreHeld most deep beyond works.body.items schedule.stages.items
  pub begun : AreBegun schedule.stages.items beyond
  pub behind : StandFor works.behind.items schedule.behind.items
  pub landed : HasLanded layout

-- The loop counts, its packets stand in their text, and they pipeline it, but that they begin this work of iterations past the last too: so they do
-- what the serial loop does, as `collapsed_for_all_trips` says.
pub record Collapsed (promised : Insn → Insn → Bool) (region : Region) (past : List SerialInsn) (loop : Pipelined) (most : ℕ) : Type 0 where
  pub counts : IsCountedLoop region
  pub stands : IsPipelined loop
  pub collapses : IsCollapsing promised region past loop most

-- the work keeps its distances, with what is past the end behind it
abbrev pub KeepDistancesPast : (Insn → Insn → Bool) → Works → List SerialInsn → ScheduleRead → (most deep : ℕ) → List Beyond → Type 0
KeepDistancesPast promised works past schedule most deep beyond = (passes : ℕ) → 0 < passes → passes ≤ deep + 3
    → (placed : List Placed) → all_instances schedule most beyond passes ≡ map instance placed
    → KeepDistances promised (record { before = insns_in works.before.items; body = insns_in works.body.items; behind = insns_in (works.behind.items ++ past) }) (most + passes) placed
