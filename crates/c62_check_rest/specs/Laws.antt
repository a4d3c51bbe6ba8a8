-- What follows where a block that belongs to no loop is told to be the same (docs/CHECK.md, "Other blocks").
use Rattle.std.specs.Prelude.{◌≡◌, ℕ, ◌+◌, true, Some, IsFalse}
use Rattle.c62_read.specs.Block.{Serial}
use Rattle.c62_serial.specs.declared.serial.Exit.{Exit}
use Rattle.c62_serial.specs.declared.serial.Exit.TheVariants.{Next, Block, Register}
use Rattle.c62_serial.specs.State.{Machine, IsSound}
use Rattle.c62_serial.specs.Serial.{serial}
use Rattle.c62_flight.specs.declared.stop.Stop.TheVariants.{Register as StopRegister}
use Rattle.c62_flight.specs.Text.{Text, is_address}
use Rattle.c62_flight.specs.Flight.{Flies}
use Rattle.c62_flight.specs.Cut.{IsCut}
use Rattle.c62_check_loop.specs.Relined.{AreRelined}
use Rattle.c62_check_rest.specs.declared.verdict.RestVerdict.{RestVerdict}
use Rattle.c62_check_rest.specs.Starts.{Starts, start_at}
use Rattle.c62_check_rest.specs.Told.{IsRest, is_same}

-- from one row the packets come to another with nothing in flight, and leave this machine
pub record ComesTo (text : Text) (first : ℕ) (opening : Machine) (row : ℕ) (machine : Machine) : Type 0 where
  pub cycles : ℕ
  pub cut : (more : ℕ) → IsCut text first (cycles + more) opening row cycles machine

-- they leave the text by a branch to this word, and this machine
pub record LeavesBy (text : Text) (first : ℕ) (opening : Machine) (word : ℕ) (machine : Machine) : Type 0 where
  pub cycles : ℕ
  pub flies : (more : ℕ) → Flies text first (cycles + more) opening (StopRegister word) cycles machine

-- Where the block of this number goes on: at the row at which the next block is entered, or that at which the block is to which its branch
-- goes, or out of the text, where the word of the branch is no row's address.
abbrev pub GoesOn : Starts → ℕ → Text → ℕ → Machine → Machine → Exit → Type 0
GoesOn starts number text first opening machine Next =
    (row : ℕ) × (start_at starts (number + 1) ≡ Some row) × ComesTo text first opening row machine
GoesOn starts number text first opening machine (Block other) =
    (row : ℕ) × (start_at starts other ≡ Some row) × ComesTo text first opening row machine
GoesOn starts number text first opening machine (Register word) =
    IsFalse (is_address text word) → LeavesBy text first opening word machine

-- The packets with the lines of the block's instructions in place of their own. From every sound machine a run from the row at which the
-- block is entered leaves the registers, memory and faulted lines of the block run serially, and goes on where that does, with nothing in flight.
pub record DoesTheBlock (starts : Starts) (packets : Text) (number : ℕ) (block : Serial) : Type 0 where
  pub text : Text
  pub relined : AreRelined packets text
  pub first : ℕ
  pub begins : start_at starts number ≡ Some first
  pub goes : (opening : Machine) → IsSound opening
      → GoesOn starts number text first opening (serial block.insns opening).machine (serial block.insns opening).exit

abbrev pub RestIsSerial : Starts → Text → ℕ → Serial → RestVerdict → Type 0
RestIsSerial starts packets number block verdict =
    IsRest starts packets number block verdict → is_same verdict ≡ true → DoesTheBlock starts packets number block
