-- A pipelined loop as it is found in packets, for every number of trips (docs/CHECK.md, "Pipelined loops").
use Rattle.std.specs.Prelude.{Bool, ◌≡◌, ◌⊎◌, ◌↔◌, ℕ, ◌+◌, ◌^◌, ◌<◌, ◌≤◌, suc, List, [], ◌∷◌, ◌++◌, length, map, take, slice_get, All, Contains, Some, IsTrue, IsFalse}
use Rattle.std.specs.List.{flat_map}
use Rattle.c62_op.specs.declared.register.Reg.{Reg}
use Rattle.c62_op.specs.Shape.{is_load, is_store}
use Rattle.c62_insn.specs.declared.insn.Insn.{Insn}
use Rattle.c62_insn.specs.Insn.{op_of, register_writes, reads_register}
use Rattle.c62_read.specs.declared.block.SerialInsn.{SerialInsn}
use Rattle.c62_serial.specs.State.{Machine, IsSound}
use Rattle.c62_serial.specs.Serial.{serial}
use Rattle.c62_packet.specs.declared.placed.Placed.{Placed}
use Rattle.c62_packet.specs.Packed.{AreDrained}
use Rattle.c62_meaning.specs.Cut.{moved}
use Rattle.c62_meaning.specs.Laws.{StandsAs}
use Rattle.c62_meaning.specs.Instances.{Meet}
use Rattle.c62_flight.specs.Issued.{issued_on}
use Rattle.c62_flight.specs.Laid.{straight}
use Rattle.c62_flight.specs.Cut.{IsCut}
use Rattle.c62_loop.specs.Counter.{size_of, touches, steps_on, steps_in, StopsAtZero, IsCounted, work_of}
use Rattle.c62_loop.specs.Loop.{Region, loop_path, serial_path, trips_of, IsCountedLoop, Pipelined, kernel_row, epilog_row, last_row, prolog_cycles, interval, visits_of, cycles_of, IsPipelined, EndsPass}
use Rattle.c62_loop.specs.Stage.{Stage, Schedule, Straights, placed_of, AreParted, KeepDistances}

-- ---- work

-- one for one these stand for the instructions
abbrev pub StandFor : List SerialInsn → List Placed → Type 0
StandFor [] [] = Unit {0}
StandFor (entry ∷ entries) (p ∷ placed) = StandsAs entry p × StandFor entries placed
StandFor _ _ = ⊥

-- each instance stands for the instruction; prolog and epilog hold those of as many iterations
pub record IsStageOf (most : ℕ) (entry : SerialInsn) (stage : Stage) : Type 0 where
  pub early : All (StandsAs entry) stage.early
  pub kernel : StandsAs entry stage.kernel
  pub late : All (StandsAs entry) stage.late
  pub even : length stage.early + length stage.late ≡ most

abbrev pub AreStagesOf : ℕ → List SerialInsn → List Stage → Type 0
AreStagesOf most [] [] = Unit {0}
AreStagesOf most (entry ∷ entries) (stage ∷ stages) = IsStageOf most entry stage × AreStagesOf most entries stages
AreStagesOf most _ _ = ⊥

abbrev pub insns_in : List SerialInsn → List Insn
insns_in entries = map (λ entry. entry.insn) entries

-- the instructions above the label, and the work of so many iterations and of what stands behind them
abbrev pub work_path : Region → ℕ → List SerialInsn
work_path region trips = region.before ++ work_of region.counter (loop_path region trips)

-- those of a region
abbrev pub work_insns : Region → Straights
work_insns region = record {
  before = insns_in region.before;
  body = insns_in (work_of region.counter region.body);
  behind = insns_in (work_of region.counter region.behind);
}

-- ---- steps and branches

-- those of the prolog, and of the kernel's first pass
pub record Control : Type 0 where
  pub early : List Placed
  pub kernel : List Placed

abbrev pub entry_of : Placed → SerialInsn
entry_of p = record { insn = p.insn; line = p.line }

abbrev pub steps_of : Reg → List Placed → ℕ
steps_of counter placed = steps_in counter (map entry_of placed)

-- a step of the counter or a branch that tests it: it reads and writes no other register, its write lands at once, and it makes no access
pub record IsControl (counter : Reg) (label : ℕ) (p : Placed) : Type 0 where
  pub touch : IsTrue (touches counter (entry_of p))
  pub counted : IsCounted counter label (entry_of p)
  pub writes : (write : Reg × ℕ) → Contains (register_writes p.insn) write → write ≡ (counter, 0)
  pub reads : (reg : Reg) → IsTrue (reads_register p.insn reg) → reg ≡ counter
  pub no_load : IsFalse (is_load (op_of p.insn))
  pub no_store : IsFalse (is_store (op_of p.insn))

-- the one comes no later, and before the other where it is a step
pub record IsInTurn (counter : Reg) (p q : Placed) : Type 0 where
  pub order : p.cycle ≤ q.cycle
  pub step : IsTrue (steps_on counter (entry_of p)) → p.cycle < q.cycle

abbrev pub AreInTurn : Reg → List Placed → List Placed → Type 0
AreInTurn counter ps qs = (p q : Placed) → Contains ps p → Contains qs q → IsInTurn counter p q

abbrev pub StandInTurn : Reg → List Placed → Type 0
StandInTurn counter [] = Unit {0}
StandInTurn counter (p ∷ ps) = AreInTurn counter (p ∷ []) ps × StandInTurn counter ps

-- The prolog and the kernel count so that of each number of passes the branch that decides the last is the first that finds the
-- counter at 0: the steps before a branch lower it by as many iterations as prolog and epilog hold, and by one for each pass up to
-- that which it ends.
pub record IsSteering (counter : Reg) (loop : Pipelined) (most : ℕ) (control : Control) : Type 0 where
  pub early : All (IsControl counter loop.label) control.early
  pub kernel : All (IsControl counter loop.label) control.kernel
  pub early_turn : StandInTurn counter control.early
  pub kernel_turn : StandInTurn counter control.kernel
  pub seam : AreInTurn counter control.early control.kernel
  pub next : AreInTurn counter control.kernel (map (moved (interval loop)) control.kernel)
  pub one_step : steps_of counter control.kernel ≡ 1
  pub enough : most ≤ steps_of counter control.early
  -- a step stops at zero, or finds as much as it takes where one pass is to be made
  pub early_counts : (i : ℕ) (p : Placed) → slice_get control.early i ≡ Some p → IsTrue (steps_on counter (entry_of p))
      → (steps_of counter (take i control.early) + size_of (entry_of p) ≤ most + 1) ⊎ StopsAtZero counter (entry_of p)
  pub kernel_counts : (i : ℕ) (p : Placed) → slice_get control.kernel i ≡ Some p → IsTrue (steps_on counter (entry_of p))
      → (steps_of counter control.early + steps_of counter (take i control.kernel) + size_of (entry_of p) ≤ most + 1) ⊎ StopsAtZero counter (entry_of p)
  -- the branches of the prolog end so many passes, and that of the kernel the one behind these
  pub ahead : ℕ
  pub early_tests : (i : ℕ) (p : Placed) → slice_get control.early i ≡ Some p → IsFalse (steps_on counter (entry_of p))
      → (pass : ℕ) × EndsPass loop pass p × (steps_of counter (take i control.early) ≡ most + suc pass)
  pub early_passes : (pass : ℕ) → pass < ahead
      → (i : ℕ) × (p : Placed) × (slice_get control.early i ≡ Some p) × IsFalse (steps_on counter (entry_of p)) × EndsPass loop pass p
  pub kernel_tests : (i : ℕ) (p : Placed) → slice_get control.kernel i ≡ Some p → IsFalse (steps_on counter (entry_of p))
      → EndsPass loop ahead p × (steps_of counter control.early + steps_of counter (take i control.kernel) ≡ most + suc ahead)
  pub kernel_pass : (i : ℕ) × (p : Placed) × (slice_get control.kernel i ≡ Some p) × IsFalse (steps_on counter (entry_of p))

-- ---- where the counter begins

-- By so many cycles at least a step or branch comes behind an instruction above the label: what this writes into the counter has landed
-- before that reads it, and no step lands before this has read the counter.
pub data IsAsked (counter : Reg) (p q : Placed) (needs : ℕ) : Type 0 where
  Lands : (delay : ℕ) → Contains (register_writes p.insn) (counter, delay) → needs ≡ delay + 1 → IsAsked counter p q needs
  Reads : IsTrue (reads_register p.insn counter) → IsTrue (steps_on counter (entry_of q)) → needs ≡ 0 → IsAsked counter p q needs

abbrev pub ComesBehind : Reg → Placed → Placed → Type 0
ComesBehind counter p q = (needs : ℕ) → IsAsked counter p q needs → p.cycle + needs ≤ q.cycle

abbrev pub ComeBehind : Reg → List Placed → List Placed → Type 0
ComeBehind counter ps qs = (p q : Placed) → Contains ps p → Contains qs q → ComesBehind counter p q

-- ---- the whole

-- In the serial run of these instructions and of the loop's work from this machine two instructions of which it is promised never load or store one byte, but in one
-- iteration.
abbrev pub AreApart : (Insn → Insn → Bool) → Region → ℕ → Machine → Type 0
AreApart promised region trips opening = (i j : ℕ) (first second : Insn) → slice_get (insns_in (work_path region trips)) i ≡ Some first
    → slice_get (insns_in (work_path region trips)) j ≡ Some second → IsTrue (promised first second)
    → AreParted (work_insns region) trips i j → Meet (work_path region trips) opening i j → ⊥

-- The packets pipeline the loop: prolog and epilog hold so many iterations of each instruction, and each pass of the kernel one. What is asked
-- is asked of finitely many rows, passes and pairs.
pub record IsPipelining (promised : Insn → Insn → Bool) (region : Region) (loop : Pipelined) (most : ℕ) : Type 0 where
  pub schedule : Schedule
  pub control : Control
  pub same_interval : schedule.interval ≡ interval loop
  -- what stands above the label and the work, one for one
  pub before : StandFor region.before schedule.before
  pub body : AreStagesOf most (work_of region.counter region.body) schedule.stages
  pub behind : StandFor (work_of region.counter region.behind) schedule.behind
  -- the rows hold this and the control, and nothing else
  pub prolog : (p : Placed) → Contains (issued_on loop.text (straight loop.text loop.first 0 loop.prolog)) p
      ↔ Contains (control.early ++ (schedule.before ++ flat_map (λ stage. stage.early) schedule.stages)) p
  pub kernel : (p : Placed) → Contains (issued_on loop.text (straight loop.text (kernel_row loop) (prolog_cycles loop) loop.kernel)) p
      ↔ Contains (control.kernel ++ map (λ stage. stage.kernel) schedule.stages) p
  pub epilog : (p : Placed) → Contains (issued_on loop.text (straight loop.text (epilog_row loop) (prolog_cycles loop) loop.epilog)) p
      ↔ Contains (flat_map (λ stage. stage.late) schedule.stages ++ schedule.behind) p
  pub steering : IsSteering region.counter loop most control
  -- which begins with what those above leave in the counter
  pub begins : ComeBehind region.counter schedule.before (control.early ++ control.kernel)
  -- distances are kept in one pass to three more than those iterations
  pub keeps : (passes : ℕ) → 0 < passes → passes ≤ most + 3 → KeepDistances promised (work_insns region) (most + passes) (placed_of schedule (most + passes) passes)
  -- after one pass all has landed when the epilog is over
  pub drained : AreDrained (cycles_of loop 1) (issued_on loop.text (visits_of loop 1))

-- From every sound machine of which the promises hold, and which comes to the label with one trip more than those iterations or any number above, the flight from the first row
-- of the prolog comes to the row behind the epilog with nothing in flight, and has left the registers, memory and faulted lines of
-- the serial loop of as many trips.
abbrev pub PipelinedForAllTrips : (Insn → Insn → Bool) → Region → Pipelined → ℕ → Type 0
PipelinedForAllTrips promised region loop most = IsCountedLoop region → IsPipelined loop → IsPipelining promised region loop most
    → (opening : Machine) (passes : ℕ) → IsSound opening → 0 < passes → trips_of region opening ≡ most + passes → most + passes < 2 ^ 32 → AreApart promised region (most + passes) opening → (more : ℕ)
    → IsCut loop.text loop.first (cycles_of loop passes + more) opening (last_row loop) (cycles_of loop passes) (serial (serial_path region (most + passes)) opening).machine
