-- A chain of blocks: block 0 first, then each block that the exit before it chooses (docs/REPORT.md, "The chain of
-- blocks"). It speaks of blocks by number and of what each does to the machine, so that serial blocks and packets cite
-- one text.
use Rattle.std.specs.Prelude.{◌≡◌, ℕ, ◌+◌, ◌<◌, ◌≤◌, nat_lt, List, [], ◌∷◌, length, None, slice_index_or, if◌then◌else◌}
use Rattle.c62_read.specs.Block.{Serial}
use Rattle.c62_serial.specs.declared.serial.Exit.{Exit}
use Rattle.c62_serial.specs.declared.serial.Exit.TheVariants.{Next, Block, Register}
use Rattle.c62_serial.specs.declared.chain.End.{End}
use Rattle.c62_serial.specs.declared.chain.End.TheVariants.{End as FellThrough, Register as ToRegister, Limit}
use Rattle.c62_serial.specs.declared.chain.Chain.{Chain}
use Rattle.c62_serial.specs.State.{Machine, Contents, IsSound}
use Rattle.c62_serial.specs.Serial.{Ran, serial}

-- What blocks do: of a block's number, the machine before it and what its run leaves.
abbrev pub Blocks : Type 1
Blocks = ℕ → Machine → Ran → Type 0

-- where a chain stands: at the start of a block, or at its end
pub data Position : Type 0 where
  At : ℕ → Position
  Ended : End → Position

-- the numbers of the blocks that were run, the machine after them, and where the chain stands
pub record Standing : Type 0 where
  pub numbers : List ℕ
  pub machine : Machine
  pub position : Position

-- at the block of this number; past the last block the chain ends
abbrev pub position_at : ℕ → ℕ → Position
position_at count number = if nat_lt number count then At number else Ended FellThrough

-- the exit chooses the next of so many blocks
abbrev pub position_after : ℕ → ℕ → Exit → Position
position_after count number Next = position_at count (number + 1)
position_after count number (Block target) = position_at count target
position_after count number (Register value) = Ended (ToRegister value)

-- From a machine and a position the blocks of these numbers, each where the chain stands, lead to a machine and a position.
unfoldable pub Leads : ℕ → Blocks → Machine → Position → List ℕ → Machine → Position → Type 0
Leads count Does machine position [] final last = (final ≡ machine) × (last ≡ position)
Leads count Does machine position (number ∷ numbers) final last =
    (position ≡ At number) × (ran : Ran) × Does number machine ran
    × Leads count Does ran.machine (position_after count number ran.exit) numbers final last

-- a chain of so many blocks comes to stand there, from block 0 on
abbrev pub Stands : ℕ → Blocks → Machine → Standing → Type 0
Stands count Does opening standing =
    Leads count Does opening (position_at count 0) standing.numbers standing.machine standing.position

-- what the limit says: where a block would follow, as many were run as it allows
abbrev pub IsStopped : ℕ → ℕ → Position → Type 0
IsStopped limit blocks (At number) = blocks ≡ limit
IsStopped limit blocks (Ended stop) = blocks ≤ limit

-- the whole chain under a limit
pub record IsChain (count : ℕ) (Does : Blocks) (opening : Machine) (limit : ℕ) (standing : Standing) : Type 0 where
  pub stands : Stands count Does opening standing
  pub stopped : IsStopped limit (length standing.numbers) standing.position

-- the chain's end: where a block would follow, the limit
abbrev pub end_of : Position → End
end_of (At number) = Limit
end_of (Ended stop) = stop

abbrev pub chain_of : Standing → Chain
chain_of standing = record { blocks = length standing.numbers; stop = end_of standing.position }

-- the chain under a limit is this one, and leaves this machine
pub record RunsChain (count : ℕ) (Does : Blocks) (opening : Machine) (limit : ℕ) (chain : Chain) (final : Machine)
    : Type 0 where
  pub standing : Standing
  pub whole : IsChain count Does opening limit standing
  pub told : chain ≡ chain_of standing
  pub left : final ≡ standing.machine

-- Each block leaves one outcome of a sound machine, and a sound machine in it.
pub record IsDetermined (count : ℕ) (Does : Blocks) : Type 0 where
  pub one : (number : ℕ) (before : Machine) (ran other : Ran) → number < count → IsSound before
      → Does number before ran → Does number before other → ran ≡ other
  pub sound : (number : ℕ) (before : Machine) (ran : Ran) → number < count → IsSound before
      → Does number before ran → IsSound ran.machine

-- the machine is that at the start of this block, reached after fewer blocks than the limit
pub record IsBlockStart (count : ℕ) (Does : Blocks) (opening : Machine) (limit number : ℕ) (machine : Machine)
    : Type 0 where
  pub numbers : List ℕ
  pub stands : Stands count Does opening (record { numbers = numbers; machine = machine; position = At number })
  pub fewer : length numbers < limit

-- ---- the blocks of a program

abbrev pub no_block : Serial
no_block = record { label = None; insns = [] }

abbrev pub block_of : List Serial → ℕ → Serial
block_of program number = slice_index_or program number no_block

abbrev pub serial_blocks : List Serial → Blocks
serial_blocks program number before ran = ran ≡ serial (block_of program number).insns before

abbrev pub IsProgramChain : List Serial → Machine → ℕ → Standing → Type 0
IsProgramChain program opening limit standing = IsChain (length program) (serial_blocks program) opening limit standing

-- the program's chain is this one, and leaves this machine
abbrev pub RunsProgram : List Serial → Machine → ℕ → Chain → Machine → Type 0
RunsProgram program opening limit chain final =
    RunsChain (length program) (serial_blocks program) opening limit chain final

-- The program's run stopped at the start of a block for whose faults there was no room.
pub record LacksRoom (program : List Serial) (opening : Machine) (limit : ℕ) (left : Contents) : Type 0 where
  pub number : ℕ
  pub start : IsBlockStart (length program) (serial_blocks program) opening limit number left.machine
  pub room : left.room < length (block_of program number).insns
