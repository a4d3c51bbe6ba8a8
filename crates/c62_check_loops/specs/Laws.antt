-- What follows where all of a text and packets is told to be the same (docs/CHECK.md, "All loops of a text").
use Rattle.std.specs.Prelude.{◌≡◌, ℕ, ◌^◌, ◌<◌, ◌≤◌, Bool, true, false, List, [], ◌++◌, length, Option, Some, None, ◌⊎◌, slice_get}
use Rattle.clap.specs.Words.{Text as Name}
use Rattle.c62_op.specs.declared.register.Reg.{Reg}
use Rattle.c62_pair.specs.declared.reg_set.RegSet.{RegSet}
use Rattle.c62_read.specs.declared.block.SerialInsn.{SerialInsn}
use Rattle.c62_read.specs.Block.{Serial}
use Rattle.c62_serial.specs.State.{Machine, IsSound}
use Rattle.c62_flight.specs.Text.{Text}
use Rattle.c62_loop.specs.Loop.{Region, trips_of}
use Rattle.c62_loop_match.specs.declared.promise.Promise.{Promise}
use Rattle.c62_loop_match.specs.Promise.{promises}
use Rattle.c62_check_loop.specs.declared.verdict.LoopVerdict.{LoopVerdict}
use Rattle.c62_check_loop.specs.declared.verdict.LoopVerdict.TheVariants.{SameBut}
use Rattle.c62_check_loop.specs.Laws.{DoesTheSame, DoesTheSameBut}
use Rattle.c62_check_loop.specs.Lines.{loop_line}
use Rattle.c62_check_loop.specs.Region.{IsRegionOf}
use Rattle.c62_check_rest.specs.Starts.{Starts, start_at}
use Rattle.c62_check_rest.specs.Laws.{DoesTheBlock}
use Rattle.c62_check_loops.specs.Covered.{is_told, is_told_with_loop}
use Rattle.c62_check_loops.specs.Fit.{first_block, block_behind, is_alone, is_within}
use Rattle.c62_check_loops.specs.Constant.{constant_at}
use Rattle.c62_check_loops.specs.Granted.{is_granted}
use Rattle.c62_check_loops.specs.Promised.{IsPromiseOf}
use Rattle.c62_check_loops.specs.Reading.{readings_from}
use Rattle.c62_check_loops.specs.Told.{AreLoopsTold}

-- the answer has this line
abbrev pub HasLine : List ℕ → List ℕ → Type 0
HasLine answer line = (front : List ℕ) × (back : List ℕ) × (answer ≡ front ++ (line ++ back))

-- The packets do what the loop of a label and a block does. Where an answer is given, they may do it but for registers, and faulted lines of loads
-- into them, that the answer names in the loop's line, and no line of the text may read these before another sets them.
abbrev pub DoesTheLoop : Promise → List Serial → Region → Text → Option (List ℕ) → Name → List SerialInsn → (least cycles first last : ℕ) → Type 0
DoesTheLoop promise blocks region packets None label insns least cycles first last = DoesTheSame (promises promise) region packets least cycles first last
DoesTheLoop promise blocks region packets (Some answer) label insns least cycles first last =
    DoesTheSame (promises promise) region packets least cycles first last
    ⊎ ((but : RegSet) × HasLine answer (loop_line label insns (SameBut least cycles first last but))
    × (readings_from blocks (block_behind blocks region.number) but ≡ [])
    × DoesTheSameBut (promises promise) region packets least cycles first last but)

-- From every sound machine the loop makes as many trips as this constant, a word, and it is no less than the packets need.
pub record MakesTrips (region : Region) (least constant : ℕ) : Type 0 where
  pub enough : least ≤ constant
  pub word : constant < 2 ^ 32
  pub makes : (opening : Machine) → IsSound opening → trips_of region opening ≡ constant

-- As many trips are sure as the packets need: the text sets the counter to a constant, and so they are made, or else the label is promised as many.
abbrev pub AreSure : List (Name × ℕ) → Region → Name → (constant : Option ℕ) → (least : ℕ) → Type 0
AreSure trips region label None least = is_granted trips label least ≡ true
AreSure trips region label (Some constant) least = MakesTrips region least constant

-- The block is a loop. As many trips are sure as the packets need, and from as many on these do what it does, with the
-- straight instructions around it, or what it does but for what the answer names, if one is given: from the row at which the first block of these is
-- entered to that at which the one behind them is.
pub record IsLoopDone (trips : List (Name × ℕ)) (promise : Promise) (starts : Starts) (blocks : List Serial) (packets : Text) (naming : Option (List ℕ)) (number : ℕ) (block : Serial) : Type 0 where
  pub label : Name
  pub labelled : block.label ≡ Some label
  pub region : Region
  pub found : IsRegionOf blocks number region
  pub least : ℕ
  pub cycles : ℕ
  pub first : ℕ
  pub last : ℕ
  pub sure : AreSure trips region label (constant_at blocks number) least
  pub does : DoesTheLoop promise blocks region packets naming label block.insns least cycles first last
  pub alone : is_alone blocks starts number ≡ true
  pub begins : start_at starts (first_block blocks number) ≡ Some first
  pub ends : start_at starts (block_behind blocks number) ≡ Some last

-- it belongs to a loop that is told, or has nothing in it and is entered where the next block is
pub record IsWithin (told : List (Option LoopVerdict)) (starts : Starts) (blocks : List Serial) (number : ℕ) : Type 0 where
  pub with_loop : is_told_with_loop blocks told number ≡ true
  pub entered : is_within blocks told starts number ≡ true

-- A block that is told as a loop is done as one. Any other belongs to one, or the packets do what it does.
abbrev pub IsDone : List (Name × ℕ) → Promise → List (Option LoopVerdict) → Starts → List Serial → Text → Option (List ℕ) → ℕ → Serial → Type 0
IsDone trips promise told starts blocks packets naming number block =
    ((is_told told number ≡ true) × IsLoopDone trips promise starts blocks packets naming number block)
    ⊎ ((is_told told number ≡ false) × (IsWithin told starts blocks number ⊎ DoesTheBlock starts packets number block))

-- So it is of each block, where an answer is given or not. The first is entered at the first row, and behind the last the packets are over.
pub record AreDone (trips : List (Name × ℕ)) (apart : List Reg) (blocks : List Serial) (packets : Text) (naming : Option (List ℕ)) : Type 0 where
  pub promise : Promise
  pub promised : IsPromiseOf apart promise
  pub told : List (Option LoopVerdict)
  pub counted : length told ≡ length blocks
  pub starts : Starts
  pub begins : start_at starts 0 ≡ Some 0
  pub ends : start_at starts (length blocks) ≡ Some (length packets.rows)
  pub each : (number : ℕ) (block : Serial) → slice_get blocks number ≡ Some block → IsDone trips promise told starts blocks packets naming number block

-- the answer, where it names registers
abbrev pub naming_of : (plain : Bool) → List ℕ → Option (List ℕ)
naming_of true answer = None
naming_of false answer = Some answer

abbrev pub LoopsDoTheSame : List (Name × ℕ) → List Reg → List Serial → Text → List ℕ → (plain : Bool) → Type 0
LoopsDoTheSame trips apart blocks packets answer plain =
    AreLoopsTold trips apart blocks packets answer true plain → AreDone trips apart blocks packets (naming_of plain answer)
