-- Packets in flight that are told to be the same run as their whole program (docs/CHECK.md, "The command").
use Rattle.std.specs.Prelude.{◌≡◌, ℕ, ◌+◌, true, All, List, IsTrue, IsFalse}
use Rattle.clap.specs.Words.{Text as Name}
use Rattle.c62_op.specs.declared.register.Reg.{Reg}
use Rattle.c62_read.specs.Block.{Serial, IsProgram, is_block}
use Rattle.c62_serial.specs.declared.chain.Chain.{Chain}
use Rattle.c62_serial.specs.declared.chain.End.{End as ChainEnd}
use Rattle.c62_serial.specs.declared.chain.End.TheVariants.{End as FellThrough, Register as LeftBy, Limit as Stopped}
use Rattle.c62_serial.specs.State.{Machine, IsSound}
use Rattle.c62_serial.specs.Chain.{RunsProgram}
use Rattle.c62_flight.specs.declared.stop.Stop.{Stop}
use Rattle.c62_flight.specs.declared.stop.Stop.TheVariants.{End, Register}
use Rattle.c62_flight.specs.Text.{Text, is_address}
use Rattle.c62_flight.specs.Flight.{Flies}
use Rattle.c62_check_loop.specs.Relined.{AreRelined}
use Rattle.c62_check_loops.specs.Told.{AreLoopsTold}
use Rattle.c62_check_whole.specs.Promised.{KeepsPromises}

-- a flight stops as a chain does that ended: behind the last row, or by a branch to a register, that held no row's address
abbrev pub StopsAs : Text → ChainEnd → Stop → Type 0
StopsAs text FellThrough stop = stop ≡ End
StopsAs text (LeftBy word) stop = IsFalse (is_address text word) × (stop ≡ Register word)
StopsAs text Stopped stop = ⊥

-- From this row the text flies so, under each limit that is no less than the cycles taken.
pub record FliesTo (text : Text) (first : ℕ) (opening : Machine) (stop : Stop) (final : Machine) : Type 0 where
  pub cycles : ℕ
  pub flies : (more : ℕ) → Flies text first (cycles + more) opening stop cycles final

-- Where the program ends, under whatever limit of blocks, the text does so, too, and leaves the same.
pub record FliesAsProgram (blocks : List Serial) (text : Text) (opening : Machine) : Type 0 where
  pub flies : (limit : ℕ) (chain : Chain) (stop : Stop) (final : Machine) → RunsProgram blocks opening limit chain final
      → StopsAs text chain.stop stop → FliesTo text 0 opening stop final

-- The packets with the lines of the program's instructions in place of their own. From every sound machine of whose run the promises
-- hold they end as the program, and leave the same registers, memory and faulted lines.
pub record AreSerial (trips : List (Name × ℕ)) (apart : List Reg) (blocks : List Serial) (packets : Text) : Type 0 where
  pub lined : Text
  pub relined : AreRelined packets lined
  pub run : (opening : Machine) → IsSound opening → KeepsPromises trips apart blocks opening → FliesAsProgram blocks lined opening

-- so are packets of which all is told to be the same, with no register named
abbrev pub CheckedLoopsAreSerial : List (Name × ℕ) → List Reg → List Serial → Text → List ℕ → Type 0
CheckedLoopsAreSerial trips apart blocks packets answer = IsProgram blocks → All (λ block. IsTrue (is_block block.insns)) blocks
    → AreLoopsTold trips apart blocks packets answer true true → AreSerial trips apart blocks packets
