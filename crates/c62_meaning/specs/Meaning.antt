-- The meaning of a block of packets: what it leaves when its length is over, and where it goes on (docs/MACHINE.md,
-- "Packets"). It is a relation with one solution.
use Rattle.std.specs.Prelude.{◌≡◌, ◌⊎◌, ◌↔◌, ℕ, ◌<◌, List, Contains, fold, IsTrue}
use Rattle.c62_op.specs.declared.register.Reg.{Reg}
use Rattle.c62_serial.specs.declared.state.TheConstants.{MEMORY_BYTES}
use Rattle.c62_serial.specs.declared.serial.Exit.{Exit}
use Rattle.c62_serial.specs.declared.serial.Exit.TheVariants.{Next}
use Rattle.c62_serial.specs.State.{Machine, IsSound, word_in, byte_in}
use Rattle.c62_serial.specs.Effect.{is_fault}
use Rattle.c62_serial.specs.Serial.{Ran, exit_after}
use Rattle.c62_packet.specs.declared.placed.Placed.{Placed}
use Rattle.c62_meaning.specs.Packet.{Did, IsRun, word_before, byte_before}

-- an instruction of this line made an access that faults
pub record HasFaulted (block : List Placed) (did : Did) (line : ℕ) : Type 0 where
  pub placed : Placed
  pub inside : Contains block placed
  pub of_line : placed.line ≡ line
  pub faults : IsTrue (is_fault (did placed).access)

-- the exit is that of a branch that ran
abbrev pub exit_by : Did → List Placed → Exit
exit_by did block = fold (λ exit p. exit_after exit (did p).target) Next block

-- what the instructions did leaves this machine after so many cycles
pub record LeavesState (block : List Placed) (cycles : ℕ) (opening : Machine) (did : Did) (final : Machine) : Type 0 where
  pub sound : IsSound final
  pub base : final.base ≡ opening.base
  pub words : (reg : Reg) → word_in final reg ≡ word_before block opening did cycles reg
  pub bytes : (address : ℕ) → address < MEMORY_BYTES → byte_in final address ≡ byte_before block opening did cycles address
  pub faults : (line : ℕ) → Contains final.faults line ↔ (Contains opening.faults line ⊎ HasFaulted block did line)

-- and goes on there
pub record Leaves (block : List Placed) (cycles : ℕ) (opening : Machine) (did : Did) (ran : Ran) : Type 0 where
  pub state : LeavesState block cycles opening did ran.machine
  pub exit : ran.exit ≡ exit_by did block

-- the meaning of a block of so many cycles
pub record IsMeaning (block : List Placed) (cycles : ℕ) (opening : Machine) (ran : Ran) : Type 0 where
  pub did : Did
  pub run : IsRun block opening did
  pub leaves : Leaves block cycles opening did ran
