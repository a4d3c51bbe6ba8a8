-- Packets that begin iterations past the last, as a collapsed epilog does, for every number of trips (docs/CHECK.md, "Past the end").
use Rattle.std.specs.Prelude.{◌≡◌, ◌↔◌, ℕ, ◌+◌, ◌^◌, ◌<◌, ◌≤◌, Bool, List, [], ◌∷◌, ◌++◌, length, map, slice_get, All, Contains, Some, IsFalse}
use Rattle.std.specs.List.{flat_map}
use Rattle.c62_op.specs.Shape.{is_store}
use Rattle.c62_insn.specs.declared.insn.Insn.{Insn}
use Rattle.c62_insn.specs.Insn.{op_of}
use Rattle.c62_read.specs.declared.block.SerialInsn.{SerialInsn}
use Rattle.c62_serial.specs.State.{Machine, IsSound}
use Rattle.c62_serial.specs.Serial.{serial}
use Rattle.c62_packet.specs.declared.placed.Placed.{Placed}
use Rattle.c62_packet.specs.Packed.{AreDrained}
use Rattle.c62_meaning.specs.Cut.{moved}
use Rattle.c62_meaning.specs.Laws.{StandsAs}
use Rattle.c62_flight.specs.Issued.{issued_on}
use Rattle.c62_flight.specs.Laid.{straight}
use Rattle.c62_flight.specs.Cut.{IsCut}
use Rattle.c62_loop.specs.Counter.{work_of}
use Rattle.c62_loop.specs.Loop.{Region, serial_path, trips_of, IsCountedLoop, Pipelined, kernel_row, epilog_row, last_row, prolog_cycles, interval, visits_of, cycles_of, IsPipelined}
use Rattle.c62_loop.specs.Past.{IsSameBut, with_past}
use Rattle.c62_loop.specs.Stage.{Stage, Schedule, cycles_in, instance_of, rounds_from, KeepDistances}
use Rattle.c62_loop.specs.Whole.{StandFor, Control, IsSteering, ComeBehind, work_insns, AreApart}

-- ---- iterations past the last

-- how many iterations prolog and epilog hold of an instruction
abbrev pub held_in : Stage → ℕ
held_in stage = length stage.early + length stage.late

-- An instance of an iteration past the last: the instruction, where it stands, and its iteration, which has this number where the
-- kernel isn't passed at all.
pub record Beyond : Type 0 where
  pub entry : SerialInsn
  pub stage : Stage
  pub number : ℕ

-- the work of these
abbrev pub past_work : List Beyond → List SerialInsn
past_work beyond = map (λ one. one.entry) beyond

-- the instances, where the kernel is passed so often
abbrev pub past_placed : ℕ → List Beyond → ℕ → List Placed
past_placed interval beyond passes = map (λ one. instance_of interval passes (passes + one.number) one.stage) beyond

-- all instances: those of the serial loop in serial order, whose iterations are so many more than passes, and behind them these
abbrev pub all_placed : Schedule → ℕ → List Beyond → ℕ → List Placed
all_placed schedule most beyond passes = schedule.before ++ rounds_from schedule passes 0 (most + passes)
    (map (moved (cycles_in schedule.interval passes)) schedule.behind ++ past_placed schedule.interval beyond passes)

-- Each instance stands for the instruction. Prolog and epilog hold those of as many iterations, or of some more, and the prolog no more
-- than these.
pub record IsHeldOf (most deep : ℕ) (entry : SerialInsn) (stage : Stage) : Type 0 where
  pub early : All (StandsAs entry) stage.early
  pub kernel : StandsAs entry stage.kernel
  pub late : All (StandsAs entry) stage.late
  pub enough : most ≤ held_in stage
  pub few : length stage.early ≤ deep

abbrev pub AreHeldOf : ℕ → ℕ → List SerialInsn → List Stage → Type 0
AreHeldOf most deep [] [] = Unit {0}
AreHeldOf most deep (entry ∷ entries) (stage ∷ stages) = IsHeldOf most deep entry stage × AreHeldOf most deep entries stages
AreHeldOf most deep _ _ = ⊥

-- it is of the instruction at some place, which holds that iteration
pub record IsHeld (work : List SerialInsn) (stages : List Stage) (one : Beyond) : Type 0 where
  pub place : ℕ
  pub entry_is : slice_get work place ≡ Some one.entry
  pub stage_is : slice_get stages place ≡ Some one.stage
  pub held : one.number < held_in one.stage

-- these are all that the stages hold of iterations past the last
abbrev pub AreAllBeyond : List SerialInsn → List Stage → ℕ → List Beyond → Type 0
AreAllBeyond work stages most beyond = (place number : ℕ) (entry : SerialInsn) (stage : Stage) → slice_get work place ≡ Some entry
    → slice_get stages place ≡ Some stage → most ≤ number → number < held_in stage
    → Contains beyond (record { entry = entry; stage = stage; number = number })

-- ---- the whole

-- The packets pipeline the loop as `IsPipelining` has it, but that they also hold this work of iterations past the last. It stores
-- nothing, and keeps its distances behind all of the serial loop.
pub record IsCollapsing (promised : Insn → Insn → Bool) (region : Region) (past : List SerialInsn) (loop : Pipelined) (most : ℕ) : Type 0 where
  pub schedule : Schedule
  pub control : Control
  pub beyond : List Beyond
  pub deep : ℕ
  pub past_is : past ≡ past_work beyond
  pub each : (one : Beyond) → Contains beyond one → IsHeld (work_of region.counter region.body) schedule.stages one
  pub all : AreAllBeyond (work_of region.counter region.body) schedule.stages most beyond
  pub no_store : All (λ entry. IsFalse (is_store (op_of entry.insn))) past
  pub same_interval : schedule.interval ≡ interval loop
  pub before : StandFor region.before schedule.before
  pub body : AreHeldOf most deep (work_of region.counter region.body) schedule.stages
  pub behind : StandFor (work_of region.counter region.behind) schedule.behind
  pub prolog : (p : Placed) → Contains (issued_on loop.text (straight loop.text loop.first 0 loop.prolog)) p
      ↔ Contains (control.early ++ (schedule.before ++ flat_map (λ stage. stage.early) schedule.stages)) p
  pub kernel : (p : Placed) → Contains (issued_on loop.text (straight loop.text (kernel_row loop) (prolog_cycles loop) loop.kernel)) p
      ↔ Contains (control.kernel ++ map (λ stage. stage.kernel) schedule.stages) p
  pub epilog : (p : Placed) → Contains (issued_on loop.text (straight loop.text (epilog_row loop) (prolog_cycles loop) loop.epilog)) p
      ↔ Contains (flat_map (λ stage. stage.late) schedule.stages ++ schedule.behind) p
  pub steering : IsSteering region.counter loop most control
  pub begins : ComeBehind region.counter schedule.before (control.early ++ control.kernel)
  -- distances are kept in one pass to three more than the prolog holds iterations
  pub keeps : (passes : ℕ) → 0 < passes → passes ≤ deep + 3
      → KeepDistances promised (work_insns (with_past region past)) (most + passes) (all_placed schedule most beyond passes)
  pub drained : AreDrained (cycles_of loop 1) (issued_on loop.text (visits_of loop 1))

-- From every sound machine of which the promises hold, of this work too, and which comes to the label with more trips than so many, the
-- flight from the first row of the prolog comes to the row behind the epilog with nothing in flight. It has left what the serial loop of as
-- many trips leaves, but for the registers that this work writes and for faulted lines of its loads.
abbrev pub CollapsedForAllTrips : (Insn → Insn → Bool) → Region → List SerialInsn → Pipelined → ℕ → Type 0
CollapsedForAllTrips promised region past loop most = IsCountedLoop region → IsPipelined loop → IsCollapsing promised region past loop most
    → (opening : Machine) (passes : ℕ) → IsSound opening → 0 < passes → trips_of region opening ≡ most + passes → most + passes < 2 ^ 32
    → AreApart promised (with_past region past) (most + passes) opening
    → (after : Machine) × IsSameBut past (serial (serial_path region (most + passes)) opening).machine after
    × ((more : ℕ) → IsCut loop.text loop.first (cycles_of loop passes + more) opening (last_row loop) (cycles_of loop passes) after)
