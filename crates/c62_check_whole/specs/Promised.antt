-- What is promised of the loops of a program, as it holds of a run of it (docs/CHECK.md, "The command").
use Rattle.std.specs.Prelude.{◌≡◌, ℕ, ◌-◌, ◌^◌, ◌<◌, ◌≤◌, true, List, length, Option, Some, None, slice_get}
use Rattle.clap.specs.Words.{Text as Name}
use Rattle.c62_op.specs.declared.register.Reg.{Reg}
use Rattle.c62_read.specs.Block.{Serial}
use Rattle.c62_serial.specs.State.{Machine}
use Rattle.c62_serial.specs.Chain.{At, Stands, serial_blocks}
use Rattle.c62_loop.specs.Loop.{Region, trips_of}
use Rattle.c62_loop.specs.Whole.{AreApart}
use Rattle.c62_loop_match.specs.declared.promise.Promise.{Promise}
use Rattle.c62_loop_match.specs.Promise.{promises}
use Rattle.c62_check_loop.specs.Region.{IsRegionOf}
use Rattle.c62_check_loops.specs.Fit.{first_block}
use Rattle.c62_check_loops.specs.Constant.{constant_at}
use Rattle.c62_check_loops.specs.Granted.{is_enough}
use Rattle.c62_check_loops.specs.Promised.{IsPromiseOf}

-- the last of these blocks
abbrev pub last_in : List ℕ → Option ℕ
last_in numbers = slice_get numbers (length numbers - 1)

-- The program's run comes with this machine to where the loop of the block of this number begins, which may be in the block above, and
-- comes there from another block than the loop's own.
pub record IsEntered (blocks : List Serial) (opening : Machine) (number : ℕ) (machine : Machine) : Type 0 where
  pub numbers : List ℕ
  pub stands : Stands (length blocks) (serial_blocks blocks) opening (record { numbers = numbers; machine = machine; position = At (first_block blocks number) })
  pub elsewhere : last_in numbers ≡ Some number → ⊥

-- From there the loop makes so many trips or more, as its counter says, which is a word.
pub record AreMade (region : Region) (least : ℕ) (machine : Machine) : Type 0 where
  pub enough : least ≤ trips_of region machine
  pub word : trips_of region machine < 2 ^ 32

-- Nothing is promised of the trips of a loop whose counter the text sets to a constant.
abbrev pub AreTripsKept : (constant : Option ℕ) → Region → (least : ℕ) → Machine → Type 0
AreTripsKept None region least machine = AreMade region least machine
AreTripsKept (Some constant) region least machine = Unit {0}

-- What is promised of the trips holds. In these, accesses from two of the registers that are promised to be apart touch no byte in two iterations.
pub record IsKept (apart : List Reg) (constant : Option ℕ) (region : Region) (least : ℕ) (machine : Machine) : Type 0 where
  pub trips : AreTripsKept constant region least machine
  pub stay_apart : (promise : Promise) → IsPromiseOf apart promise → AreApart (promises promise) region (trips_of region machine) machine

-- So it is each time that the program's run from this machine enters a loop, with as many trips as are promised of its label, or as the text
-- sets its counter to.
pub record KeepsPromises (trips : List (Name × ℕ)) (apart : List Reg) (blocks : List Serial) (opening : Machine) : Type 0 where
  pub each : (number : ℕ) (block : Serial) (label : Name) (region : Region) (least : ℕ) (machine : Machine) → slice_get blocks number ≡ Some block
      → block.label ≡ Some label → IsRegionOf blocks number region → is_enough trips label (constant_at blocks number) least ≡ true
      → IsEntered blocks opening number machine → IsKept apart (constant_at blocks number) region least machine
