-- The faults of a listing: of its lines, each with its neighbours, and of its blocks (docs/LISTING.md, "Faults of a line" and
-- "Faults of a block").
use Rattle.std.specs.Prelude.{◌≡◌, ℕ, ◌+◌, Bool, true, false, not, ◌&&◌, nat_le, nat_lt, if◌then◌else◌, List, [], ◌∷◌, length, map, take, Option, Some, None, is_some, is_none, Result, Ok, Err, All}
use Rattle.std.specs.List.{list_all, list_any, slice_get}
use Rattle.c62_op.specs.declared.register.Unit.{Unit as FunctionalUnit}
use Rattle.c62_op.specs.Units.{index_of}
use Rattle.c62_line.specs.declared.fault.Cause.{Cause}
use Rattle.c62_line.specs.declared.fault.Cause.TheVariants.{NotAscii, LineTooLong, BadLabel, DuplicateLabel, UnknownMnemonic, ParallelBar, UnknownTarget, TooManyInstructions, TooManyBlocks, TextTooLong}
use Rattle.c62_token.specs.Token.{is_allowed}
use Rattle.c62_line.specs.Line.{Says, Nothing, Pause, Does, Jumps, line_of}
use Rattle.c62_line.specs.Line.{label_field}
use Rattle.c62_read.specs.Program.{Name, label_is}
use Rattle.c62_read.specs.Walk.{is_unknown, is_instruction}
use Rattle.c62_read.specs.declared.limits.TheConstants.{MOST_BLOCKS, MOST_INSTRUCTIONS}
use Rattle.c62_packet.specs.declared.limits.TheConstants.{MOST_CYCLES}
use Rattle.c62_packet.specs.declared.placed.Placed.{Placed}
use Rattle.c62_packet.specs.declared.fault.BlockFault.{BlockFault}
use Rattle.c62_packet.specs.Packed.{Packed, StandAsWritten, IsPacketBlock}
use Rattle.c62_packet.specs.Fault.{IsFault}
use Rattle.c62_listing_reader.specs.declared.line.Front.{Front}
use Rattle.c62_listing_reader.specs.declared.line.Front.TheVariants.{Beside, Stray}
use Rattle.c62_listing_reader.specs.declared.line.Above.{Above}
use Rattle.c62_listing_reader.specs.declared.line.Above.TheVariants.{Start, Pause as PauseAbove, Issue}
use Rattle.c62_listing_reader.specs.declared.reader.TheConstants.{MOST_BYTES}
use Rattle.c62_listing_reader.specs.declared.fault.LineFault.{LineFault}
use Rattle.c62_listing_reader.specs.declared.fault.LineFault.TheVariants.{Read, Shape}
use Rattle.c62_listing_reader.specs.Text.{Line, lines_in, content, is_ended, begin_filled}
use Rattle.c62_listing_reader.specs.Begin.{has_colon, front_of, rest_of, is_gap, is_beside}
use Rattle.c62_listing_reader.specs.Said.{Said, part_of, Draft, Drafts, no_drafts, all_drafts, opened, with_said, above_next, names_in, labels_of, aim_by, spelled_line, is_text}
use Rattle.c62_line.specs.declared.limits.TheConstants.{MOST_LINE}
use Rattle.c62_op.specs.declared.set.InstructionSet.{InstructionSet}

-- ---- what the line above says

abbrev pub is_issue : Above → Bool
is_issue (Issue unit) = true
is_issue _ = false

abbrev pub is_filled : Above → Bool
is_filled Start = false
is_filled _ = true

abbrev pub unit_said : Says → Option FunctionalUnit
unit_said (Does parts) = parts.unit
unit_said (Jumps parts target) = parts.unit
unit_said _ = None

abbrev pub unit_above : Above → Option FunctionalUnit
unit_above (Issue unit) = unit
unit_above _ = None

abbrev pub precedes : Option FunctionalUnit → Option FunctionalUnit → Bool
precedes (Some unit) (Some above) = nat_lt (index_of unit) (index_of above)
precedes _ _ = false

-- a pause directly behind one of less than nine cycles
abbrev pub goes_on : Says → Above → Bool
goes_on (Pause n) (PauseAbove above) = nat_lt above 9
goes_on _ _ = false

-- ---- the faults of a line, in their order

-- the line begins as no line of a listing, or stands beside no instruction
abbrev pub is_misplaced : Front → Above → Bool
is_misplaced Stray above = true
is_misplaced Beside above = not (is_issue above)
is_misplaced _ above = false

abbrev pub is_given : Name → List Draft → Bool
is_given label drafts = list_any (λ draft. label_is label draft.label) drafts

-- whether a block has this label already
abbrev pub is_taken : Option Name → Drafts → Bool
is_taken None drafts = false
is_taken (Some label) drafts = is_given label (all_drafts drafts)

-- What the rest of a line says where bars have no meaning in it, with a label that is taken before all but a bad label.
abbrev pub after_label : Bool → Bool → Result (Option Name × Says) Cause → Result (Option Name × Says) Cause
after_label taken colon (Err ParallelBar) = Err (if colon then BadLabel else UnknownMnemonic)
after_label taken colon (Err BadLabel) = Err BadLabel
after_label taken colon read = if taken then Err DuplicateLabel else read

-- an instruction of a block that has the most already
abbrev pub is_one_more : Drafts → Says → Bool
is_one_more drafts says = is_instruction says && nat_le MOST_INSTRUCTIONS (length (opened drafts.current).placed)

-- the line begins a block, and there are the most already
abbrev pub begins_one_more : Drafts → Front → Bool
begins_one_more drafts front = not (is_gap front) && is_none drafts.current && nat_le MOST_BLOCKS (length drafts.done)

-- what stands against a line that says something: a branch to no label, an instruction too many, a block too many
abbrev pub hindrance : List Name → Drafts → Front → Says → Option Cause
hindrance labels drafts front says =
    if is_unknown labels says then Some UnknownTarget
    else (if is_one_more drafts says then Some TooManyInstructions
    else (if begins_one_more drafts front then Some TooManyBlocks
    else None))

abbrev pub cycles_added : Bool → Says → ℕ
cycles_added beside Nothing = 0
cycles_added beside (Pause n) = n
cycles_added beside says = if beside then 0 else 1

-- an empty line stands between two lines that are not empty
abbrev pub is_alone : Front → Above → List Line → Bool
is_alone front above below = is_gap front && not (is_filled above && begin_filled below)

-- the line makes its block too long
abbrev pub is_too_long : Drafts → Front → Says → Bool
is_too_long drafts front says = nat_lt MOST_CYCLES ((opened drafts.current).cycles + cycles_added (is_beside front) says)

-- The line does not fit its neighbours: it does not end as it should, gives a unit that stands before the one above it in a
-- packet, goes on with a pause, is an empty line alone, has a label in a block that is begun, or makes its block too long.
abbrev pub is_unfit : Drafts → Above → Line → List Line → Front → Option Name → Says → Bool
is_unfit drafts above line below front label says =
    if not (is_ended line) then true
    else (if is_beside front && precedes (unit_said says) (unit_above above) then true
    else (if goes_on says above then true
    else (if is_alone front above below then true
    else (if is_some label && is_some drafts.current then true
    else is_too_long drafts front says))))

-- the line is not the one spelling of what it says, or does not fit its neighbours
abbrev pub is_odd : Drafts → Above → Line → List Line → Front → Option Name → Says → Bool
is_odd drafts above line below front label says =
    if not (is_text (content line) (spelled_line front label says)) then true else is_unfit drafts above line below front label says

abbrev pub unless_odd : Bool → Said → Result Said LineFault
unless_odd true said = Err Shape
unless_odd false said = Ok said

abbrev pub unless_hindered : Option Cause → Result Said LineFault → Result Said LineFault
unless_hindered (Some cause) rest = Err (Read cause)
unless_hindered None rest = rest

abbrev pub with_rest : List Name → Drafts → Above → Line → List Line → Front → Result (Option Name × Says) Cause → Result Said LineFault
with_rest labels drafts above line below front (Err cause) = Err (Read cause)
with_rest labels drafts above line below front (Ok (label, says)) =
    unless_hindered (hindrance labels drafts front says)
    (unless_odd (is_odd drafts above line below front label says) (record { front = front; label = label; says = says }))

-- what the rest of a line says that reads so
abbrev pub rest_read_as : Drafts → List ℕ → Result (Option Name × Says) Cause → Result (Option Name × Says) Cause
rest_read_as drafts rest read = after_label (is_taken (label_field rest) drafts) (has_colon rest) read

abbrev pub rest_says : InstructionSet → Drafts → List ℕ → Result (Option Name × Says) Cause
rest_says isa drafts rest = rest_read_as drafts rest (line_of isa rest)

-- what a line says, or its first fault
unfoldable pub line_says : InstructionSet → List Name → Drafts → Above → Line → List Line → Result Said LineFault
line_says isa labels drafts above line below =
    if not (list_all is_allowed (content line)) then Err (Read NotAscii)
    else (if nat_lt MOST_LINE (length (content line)) then Err (Read LineTooLong)
    else (if is_misplaced (front_of (content line)) above then Err Shape
    else with_rest labels drafts above line below (front_of (content line)) (rest_says isa drafts (rest_of (front_of (content line)) (content line)))))

-- ---- the faults of a text

abbrev pub Refusal : Type 0
Refusal = ℕ × LineFault

abbrev pub and_then : ℕ → Result Said LineFault → (Said → Result Drafts Refusal) → Result Drafts Refusal
and_then number (Ok said) next = next said
and_then number (Err fault) next = Err (number, fault)

-- the blocks with what these lines say, of which the first has this number, or the first faulty line with its fault
unfoldable pub read_lines : InstructionSet → List Name → (Name → ℕ) → ℕ → Drafts → Above → List Line → Result Drafts Refusal
read_lines isa labels aim number drafts above [] = Ok drafts
read_lines isa labels aim number drafts above (line ∷ below) =
    and_then number (line_says isa labels drafts above line below) (λ said. read_lines isa labels aim (number + 1) (with_said aim number said drafts) (above_next said.front said.says) below)

abbrev pub contents : List ℕ → List (List ℕ)
contents text = map content (lines_in text)

abbrev pub most_bytes : ℕ
most_bytes = MOST_BYTES

abbrev pub drafts_in : InstructionSet → List ℕ → Result Drafts Refusal
drafts_in isa text =
    if nat_lt most_bytes (length text) then Err (0, Read TextTooLong)
    else read_lines isa (labels_of (names_in 0 (contents text))) (aim_by (names_in 0 (contents text))) 1 no_drafts Start (lines_in text)

abbrev pub draft_of : Packed → Draft
draft_of block = record { label = block.label; cycles = block.cycles; placed = map part_of block.placed }

-- a block has this fault
pub record IsFaulted (draft : Draft) (fault : BlockFault) : Type 0 where
  pub placed : List Placed
  pub stand : map part_of placed ≡ draft.placed
  pub as_written : StandAsWritten placed
  pub faulty : IsFault draft.cycles placed fault

-- the block of this number has this fault, and those before it are packet blocks
pub record IsFirstFaulty (drafts : List Draft) (number : ℕ) (fault : BlockFault) : Type 0 where
  pub draft : Draft
  pub at : slice_get drafts number ≡ Some draft
  pub faulted : IsFaulted draft fault
  pub blocks : List Packed
  pub before : map draft_of blocks ≡ take number drafts
  pub are_blocks : All IsPacketBlock blocks

-- no line of the text has a fault, and this block is the first that has one
pub record IsFaulty (isa : InstructionSet) (text : List ℕ) (number : ℕ) (fault : BlockFault) : Type 0 where
  pub drafts : Drafts
  pub said : drafts_in isa text ≡ Ok drafts
  pub block : IsFirstFaulty (all_drafts drafts) number fault

-- the packets are the blocks that the lines say, and no line has a fault
pub record IsRead (isa : InstructionSet) (text : List ℕ) (packets : List Packed) : Type 0 where
  pub drafts : Drafts
  pub said : drafts_in isa text ≡ Ok drafts
  pub blocks : map draft_of packets ≡ all_drafts drafts
  pub are_blocks : All IsPacketBlock packets
