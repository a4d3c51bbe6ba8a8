-- What is found for a block that is a loop (docs/SCHEDULING.md, "Loops of a program").
use Rattle.std.specs.Prelude.{◌≡◌, ◌⊎◌, ◌<◌, ℕ, ◌+◌, ◌-◌, Bool, true, false, List, [], slice_get, Option, Some, None, IfSome}
use Rattle.clap.specs.Words.{Text as Name}
use Rattle.c62_op.specs.declared.register.Reg.{Reg}
use Rattle.c62_read.specs.declared.block.SerialInsn.{SerialInsn}
use Rattle.c62_op.specs.declared.operands.Operands.{Operands}
use Rattle.c62_op.specs.declared.operands.Operands.TheVariants.{Block}
use Rattle.c62_insn.specs.Insn.{operands_of}
use Rattle.c62_read.specs.Block.{Serial}
use Rattle.c62_loop.specs.Loop.{Region}
use Rattle.c62_loop_match.specs.declared.promise.Promise.{Promise}
use Rattle.c62_loop_match.specs.Form.{counts, is_counted_loop}
use Rattle.c62_loop_match.specs.Promise.{promises}
use Rattle.c62_modulo.specs.declared.made.Made.{Made}
use Rattle.c62_modulo.specs.declared.made.Shortness.{Shortness}
use Rattle.c62_modulo.specs.Made.{IsMade, IsShown}
use Rattle.c62_check_loop.specs.Region.{counter_of, last_of}
use Rattle.c62_check_loops.specs.Promised.{IsPromiseOf}
use Rattle.c62_check_loops.specs.Constant.{constant_at}
use Rattle.c62_check_loops.specs.Granted.{is_enough}
use Rattle.c62_pipeline.specs.declared.chosen.Kept.{Kept}
use Rattle.c62_pipeline.specs.declared.chosen.Kept.TheVariants.{Pipelined, Several, NoCounter, Used, NoTrips, MayMeet, TooFew, NotShorter, NotChecked}
use Rattle.c62_pipeline.specs.declared.chosen.Choice.{Choice}
use Rattle.c62_pipeline.specs.Limit.{IsLimitOf}
use Rattle.c62_pipeline.specs.Meeting.{meeting_of}

-- the loop that a block is, without the instructions around it
abbrev pub loop_alone : ℕ → Serial → Reg → Region
loop_alone number block counter = record { before = []; body = block.insns; behind = []; counter = counter; number = number }

-- These packets do what the loop does from so many trips on, each of so many cycles, and of how short one can be this is known.
pub record IsPipelined (promise : Promise) (region : Region) (cycles stages : ℕ) (shortness : Shortness) (made : Made) : Type 0 where
  pub trips : ℕ
  pub longest : ℕ
  pub is : IsMade (promises promise) region trips longest made
  pub takes : cycles ≡ made.interval
  pub enters : stages ≡ made.most + 1
  pub shown : IsShown promise region cycles shortness

-- packets of the loop do the same from so many trips on
pub record IsFromTrips (promise : Promise) (region : Region) (stages : ℕ) : Type 0 where
  pub made : Made
  pub trips : ℕ
  pub longest : ℕ
  pub is : IsMade (promises promise) region trips longest made
  pub enters : stages ≡ made.most + 1

-- no packets are told, and where it is said to lie at two accesses, these may meet, and where at the trips, there are packets for more
abbrev pub IsReason : Promise → Region → Kept → Type 0
IsReason promise region (Pipelined cycles stages known) = ⊥
IsReason promise region (Several count) = ⊥
IsReason promise region NoCounter = ⊥
IsReason promise region (Used line counter) = ⊥
IsReason promise region NoTrips = ⊥
IsReason promise region (MayMeet first second) = meeting_of promise region.body ≡ Some (record { first = first; second = second })
IsReason promise region (TooFew stages) = IsFromTrips promise region stages
IsReason promise region NotShorter = Unit {0}
IsReason promise region NotChecked = Unit {0}

abbrev pub IsPipelinedAs : Promise → Region → Made → Kept → Type 0
IsPipelinedAs promise region made (Pipelined cycles stages known) = IsPipelined promise region cycles stages known made
IsPipelinedAs promise region made (Several count) = ⊥
IsPipelinedAs promise region made NoCounter = ⊥
IsPipelinedAs promise region made (Used line counter) = ⊥
IsPipelinedAs promise region made NoTrips = ⊥
IsPipelinedAs promise region made (MayMeet first second) = ⊥
IsPipelinedAs promise region made (TooFew stages) = ⊥
IsPipelinedAs promise region made NotShorter = ⊥
IsPipelinedAs promise region made NotChecked = ⊥

-- the packets of a loop are told as they are, or why it has none
abbrev pub IsToldAs : Promise → Region → Option Made → Kept → Type 0
IsToldAs promise region None kept = IsReason promise region kept
IsToldAs promise region (Some made) kept = IsPipelinedAs promise region made kept

abbrev pub IsFound : Promise → Region → Choice → Type 0
IsFound promise region choice =
    (choice.number ≡ region.number) × IsToldAs promise region choice.made choice.kept × IfSome choice.limit (IsLimitOf promise region)

-- where accesses from two of these registers are promised to be apart
abbrev pub IsFoundOf : List Reg → Region → Choice → Type 0
IsFoundOf apart region choice = (promise : Promise) × IsPromiseOf apart promise × IsFound promise region choice

-- a block of this label goes on while this register isn't 0, and lowers it by one, as it is written
abbrev pub counts_down : Option Name → Option Reg → ℕ → Serial → Bool
counts_down (Some label) (Some counter) number block = is_counted_loop (loop_alone number block counter)
counts_down label counter number block = false

-- the block to which an instruction branches
abbrev pub aimed_at : Operands → Option ℕ
aimed_at (Block number) = Some number
aimed_at operands = None

abbrev pub target_of : Option SerialInsn → Option ℕ
target_of None = None
target_of (Some last) = aimed_at (operands_of last.insn)

-- a loop of several blocks has their packets: the last of them branches up to the first
pub record IsSeveral (blocks : List Serial) (choice : Choice) : Type 0 where
  pub none : choice.made ≡ None
  pub unlimited : choice.limit ≡ None
  pub last : ℕ
  pub block : Serial
  pub at : slice_get blocks last ≡ Some block
  pub leads : target_of (last_of block.insns) ≡ Some choice.number
  pub above : choice.number < last
  pub told : choice.kept ≡ Several (last - choice.number + 1)

-- a loop that nothing counts has its block's packets
pub record IsUncounted (blocks : List Serial) (choice : Choice) : Type 0 where
  pub none : choice.made ≡ None
  pub told : choice.kept ≡ NoCounter
  pub unlimited : choice.limit ≡ None
  pub block : Serial
  pub at : slice_get blocks choice.number ≡ Some block
  pub why : counts_down block.label (counter_of blocks choice.number) choice.number block ≡ false

-- the instruction of this line does more with the counter than to lower it by a constant or to test it for the loop's branch
pub record UsesCounter (counter : Reg) (number : ℕ) (insns : List SerialInsn) (line : ℕ) : Type 0 where
  pub place : ℕ
  pub entry : SerialInsn
  pub stands : slice_get insns place ≡ Some entry
  pub uses : counts counter number entry ≡ false
  pub told : entry.line ≡ line

-- so has a loop with such an instruction, whose line is told
pub record IsUsed (blocks : List Serial) (choice : Choice) : Type 0 where
  pub none : choice.made ≡ None
  pub unlimited : choice.limit ≡ None
  pub block : Serial
  pub at : slice_get blocks choice.number ≡ Some block
  pub counter : Reg
  pub tests : counter_of blocks choice.number ≡ Some counter
  pub line : ℕ
  pub uses : UsesCounter counter choice.number block.insns line
  pub told : choice.kept ≡ Used line counter

-- so has a loop of whose label not one trip is promised, where the text sets its counter to no constant, and one that this makes 0
pub record IsUnpromised (trips : List (Name × ℕ)) (label : Option Name) (constant : Option ℕ) (choice : Choice) : Type 0 where
  pub none : choice.made ≡ None
  pub told : choice.kept ≡ NoTrips
  pub unlimited : choice.limit ≡ None
  pub why : IfSome label (λ label. is_enough trips label constant 1 ≡ false)

-- what is found for a loop under a counter, of this label, whose counter the text sets to this constant or to none
abbrev pub IsCountedAs : List (Name × ℕ) → List Reg → Option Name → Option ℕ → Region → Choice → Type 0
IsCountedAs trips apart label constant region choice =
    (choice.number ≡ region.number) × (IsUnpromised trips label constant choice ⊎ IsFoundOf apart region choice)

-- so it is of such a block
pub record IsCounted (trips : List (Name × ℕ)) (apart : List Reg) (blocks : List Serial) (choice : Choice) : Type 0 where
  pub block : Serial
  pub at : slice_get blocks choice.number ≡ Some block
  pub counter : Reg
  pub counts : counter_of blocks choice.number ≡ Some counter
  pub found : IsCountedAs trips apart block.label (constant_at blocks choice.number) (loop_alone choice.number block counter) choice

-- what is found for a block of these that is a loop
abbrev pub IsChosen : List (Name × ℕ) → List Reg → List Serial → Choice → Type 0
IsChosen trips apart blocks choice = IsSeveral blocks choice ⊎ IsUncounted blocks choice ⊎ IsUsed blocks choice ⊎ IsCounted trips apart blocks choice

-- ---- giving up

abbrev pub given_up_where : Option Made → Choice → Choice
given_up_where None choice = choice
given_up_where (Some made) choice = record { number = choice.number; made = None; kept = NotChecked; limit = None }

-- what became of a loop whose packets, where it has some, are given up, as they aren't told to do the same
abbrev pub given_up : Choice → Choice
given_up choice = given_up_where choice.made choice
