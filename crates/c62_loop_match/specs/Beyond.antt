-- Instances of iterations past the last, as the code has them (docs/CHECK.md, "Past the end").
use Rattle.std.specs.Prelude.{◌≡◌, ℕ, ◌+◌, ◌<◌, ◌≤◌, List, length, slice_get, slice_index_or, All, Contains, Option, Some, None}
use Rattle.c62_read.specs.declared.block.SerialInsn.{SerialInsn}
use Rattle.c62_loop.specs.Stage.{instance_of}
use Rattle.c62_meaning.specs.Laws.{StandsAs}
use Rattle.c62_loop_match.specs.declared.beyond.Beyond.{Beyond as BeyondRead}
use Rattle.c62_loop_match.specs.declared.parts.Stage.{Stage as StageRead}
use Rattle.c62_loop_match.specs.declared.path.Instance.{Instance}
use Rattle.c62_loop_match.specs.Parts.{stage_of}
use Rattle.c62_loop_match.specs.Path.{instance}

abbrev pub held_of : StageRead → ℕ
held_of stage = length stage.early.items + length stage.late.items

-- the instance of an instruction, if there is one, of the iteration with this number, where the kernel is passed so often
abbrev pub instance_in : (interval passes number : ℕ) → Option StageRead → Instance
instance_in interval passes number None = record { cycle = 0; line = 0 }
instance_in interval passes number (Some stage) = instance (instance_of interval passes (passes + number) (stage_of stage))

-- prolog and epilog hold an iteration of this number of an instruction, if there is one
abbrev pub begun_in : ℕ → Option StageRead → Type 0
begun_in number None = ⊥
begun_in number (Some stage) = number < held_of stage

-- an instruction stands at its place, of which they hold its iteration
abbrev pub IsBegun : List StageRead → BeyondRead → Type 0
IsBegun stages one = begun_in one.number (slice_get stages one.place)

abbrev pub AreBegun : List StageRead → List BeyondRead → Type 0
AreBegun stages beyond = All (IsBegun stages) beyond

-- those of this place with these numbers are among them
abbrev pub HoldsNumbers : List BeyondRead → (place from to : ℕ) → Type 0
HoldsNumbers beyond place from to = (one : BeyondRead) → one.place ≡ place → from ≤ one.number → one.number < to → Contains beyond one

-- of the instruction at a place are held as many iterations, and of those past the last each is among them
pub record HoldsPast (most : ℕ) (stage : StageRead) (beyond : List BeyondRead) (place : ℕ) : Type 0 where
  pub enough : most ≤ held_of stage
  pub past : HoldsNumbers beyond place most (held_of stage)

pub record IsHeldAt (most deep : ℕ) (beyond : List BeyondRead) (place : ℕ) (entry : SerialInsn) (stage : StageRead) : Type 0 where
  pub early : All (StandsAs entry) stage.early.items
  pub kernel : StandsAs entry stage.kernel
  pub late : All (StandsAs entry) stage.late.items
  pub few : length stage.early.items ≤ deep
  pub all : HoldsPast most stage beyond place

pub record AreHeld (most deep : ℕ) (beyond : List BeyondRead) (entries : List SerialInsn) (stages : List StageRead) : Type 0 where
  pub count : length stages ≡ length entries
  pub each : (place : ℕ) (entry : SerialInsn) (stage : StageRead) → slice_get entries place ≡ Some entry → slice_get stages place ≡ Some stage
      → IsHeldAt most deep beyond place entry stage
