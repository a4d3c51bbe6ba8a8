-- What the reader holds, as the definitions see it.
use Rattle.std.specs.Prelude.{◌≡◌, ◌⊎◌, ℕ, ◌+◌, ◌≤◌, Bool, IsTrue, is_some, List, length, map, All, Option, option_map, Result, Ok, Err, IfOk, MatchResult}
use Rattle.c62_line.specs.declared.fault.Cause.{Cause}
use Rattle.c62_line.specs.declared.fault.ReadFault.{ReadFault}
use Rattle.c62_line.specs.declared.reading.Reading.{Reading}
use Rattle.c62_line.specs.Line.{Says, Does, Jumps, said_of}
use Rattle.c62_read.specs.Program.{Name}
use Rattle.c62_read.specs.declared.limits.TheConstants.{MOST_BLOCKS}
use Rattle.c62_packet.specs.declared.limits.TheConstants.{MOST_CYCLES}
use Rattle.c62_packet.specs.declared.fault.BlockFault.{BlockFault}
use Rattle.c62_packet.specs.Packed.{Packed, IsPacketBlock}
use Rattle.c62_packet.specs.declared.fault.BlockFault.TheVariants.{TwoBranches, NotDrained, Unlawful}
use Rattle.c62_listing_reader.specs.declared.draft.OpenBlock.{OpenBlock}
use Rattle.c62_listing_reader.specs.declared.draft.Blocks.{Blocks}
use Rattle.c62_listing_reader.specs.declared.line.Front.{Front}
use Rattle.c62_listing_reader.specs.declared.names.Names.{Names}
use Rattle.c62_listing_reader.specs.declared.fault.LineFault.{LineFault}
use Rattle.c62_listing_reader.specs.declared.fault.LineFault.TheVariants.{Read as ReadLine, Shape as ShapeLine, Memory as MemoryLine}
use Rattle.c62_listing_reader.specs.declared.fault.ListFault.{ListFault}
use Rattle.c62_listing_reader.specs.declared.fault.ListFault.TheVariants.{Read, Unlawful as UnlawfulBlock, NotDrained as Undrained, TwoBranches as Branches, Shape, Memory}
use Rattle.c62_listing_reader.specs.declared.line.Above.{Above}
use Rattle.c62_listing_reader.specs.declared.line.Above.TheVariants.{Start}
use Rattle.c62_listing_reader.specs.declared.text.Cut.{Cut}
use Rattle.c62_listing_reader.specs.Text.{lines_in, content}
use Rattle.c62_listing_reader.specs.Cut.{line_cut}
use Rattle.c62_listing_reader.specs.Said.{Said, part_of, Draft, Drafts, all_drafts, opened, no_drafts, names_in, labels_of, aim_by, with_says, with_line, with_said}
use Rattle.c62_listing_reader.specs.Begin.{is_beside, rest_of}
use Rattle.c62_listing_reader.specs.Fine.{IsFine}
use Rattle.c62_listing_reader.specs.Faults.{Refusal, contents, drafts_in, draft_of, line_says, read_lines, rest_says, with_rest, is_unfit, is_odd, unless_odd, IsFaulted, IsFirstFaulty, IsFaulty, cycles_added}
use Rattle.c62_op.specs.declared.set.InstructionSet.{InstructionSet}

abbrev pub draft_open : OpenBlock → Draft
draft_open block = record { label = block.label; cycles = block.cycles; placed = map part_of block.placed.items }

abbrev pub drafts_of : Blocks → Drafts
drafts_of blocks = record { done = map draft_open blocks.done.items; current = option_map draft_open blocks.current }

abbrev pub said_by : Front → Reading → Said
said_by front reading = record { front = front; label = reading.label; says = said_of reading.what }

abbrev pub entries_of : Names → List (Name × ℕ)
entries_of names = names_in 0 (contents names.text.now)

abbrev pub read_as : Result Reading ReadFault → Result (Option Name × Says) Cause
read_as (Ok reading) = Ok (reading.label, said_of reading.what)
read_as (Err fault) = Err fault.cause

-- memory may run out before any answer
abbrev pub Fails : LineFault → Result Said LineFault → Type 0
Fails fault says = (fault ≡ MemoryLine) ⊎ (says ≡ Err fault)

-- the blocks that the lines of a text say, or the first faulty line with its fault
abbrev pub lines_read : InstructionSet → Names → Result Drafts Refusal
lines_read isa names = read_lines isa (labels_of (entries_of names)) (aim_by (entries_of names)) 1 no_drafts Start (lines_in names.text.now)

-- the open block has what a line says too
abbrev pub AddsSays : Names → Bool → ℕ → Says → OpenBlock → OpenBlock → Type 0
AddsSays names beside line says old new = draft_open new ≡ with_says (aim_by (entries_of names)) beside line says (draft_open old)

-- it has the line's label too
abbrev pub AddsLine : Names → ℕ → Said → OpenBlock → OpenBlock → Type 0
AddsLine names line said old new = draft_open new ≡ with_line (aim_by (entries_of names)) line said (draft_open old)

-- the blocks have what a line says too
abbrev pub AddsSaid : Names → ℕ → Said → Blocks → Blocks → Type 0
AddsSaid names line said old new = drafts_of new ≡ with_said (aim_by (entries_of names)) line said (drafts_of old)

-- what a refusal says of lines, of blocks and of a text
abbrev pub RefusesLines : Result Drafts Refusal → ListFault → Type 0
RefusesLines says (Read fault) = says ≡ Err (fault.line, ReadLine fault.cause)
RefusesLines says (Shape line) = says ≡ Err (line, ShapeLine)
RefusesLines says Memory = Unit {0}
RefusesLines says _ = ⊥

-- the blocks that the lines of a text say, each fine and no more than there may be, or its first faulty line
abbrev pub ReadsBlocks : InstructionSet → Names → Result Blocks ListFault → Type 0
ReadsBlocks isa names read = MatchResult read
    (λ blocks. (lines_read isa names ≡ Ok (drafts_of blocks)) × All IsFine (all_drafts (drafts_of blocks))
    × (length (all_drafts (drafts_of blocks)) ≤ MOST_BLOCKS))
    (λ fault. RefusesLines (lines_read isa names) fault)

-- the answer is right wherever the line of this number has this fault, or memory ran out
abbrev pub TellsOfLine : ℕ → LineFault → ListFault → Type 0
TellsOfLine line fault told = (says : Result Drafts Refusal) → (fault ≡ MemoryLine) ⊎ (says ≡ Err (line, fault)) → RefusesLines says told

-- the packet block of a draft, or its fault
abbrev pub IsBlockOf : Draft → Result Packed BlockFault → Type 0
IsBlockOf draft made = MatchResult made (λ packed. (draft_of packed ≡ draft) × IsPacketBlock packed) (IsFaulted draft)

abbrev pub RefusesBlocks : List Draft → ListFault → Type 0
RefusesBlocks drafts (Branches number) = IsFirstFaulty drafts number TwoBranches
RefusesBlocks drafts (Undrained number) = IsFirstFaulty drafts number NotDrained
RefusesBlocks drafts (UnlawfulBlock number cycle rule) = IsFirstFaulty drafts number (Unlawful cycle rule)
RefusesBlocks drafts Memory = Unit {0}
RefusesBlocks drafts _ = ⊥

-- the packets of these blocks, or the first of them that is faulty
abbrev pub PacksBlocks : List Draft → Result (List Packed) ListFault → Type 0
PacksBlocks drafts packed = MatchResult packed
    (λ packets. (map draft_of packets ≡ drafts) × All IsPacketBlock packets)
    (λ fault. RefusesBlocks drafts fault)

abbrev pub Refuses : InstructionSet → List ℕ → ListFault → Type 0
Refuses isa text (Read fault) = drafts_in isa text ≡ Err (fault.line, ReadLine fault.cause)
Refuses isa text (Shape line) = drafts_in isa text ≡ Err (line, ShapeLine)
Refuses isa text (Branches number) = IsFaulty isa text number TwoBranches
Refuses isa text (Undrained number) = IsFaulty isa text number NotDrained
Refuses isa text (UnlawfulBlock number cycle rule) = IsFaulty isa text number (Unlawful cycle rule)
Refuses isa text Memory = Unit {0}

-- where the text says this of a line, the line is judged so: nothing stands against it, or a fault
abbrev pub Judges : Result Said LineFault → Said → Result Unit LineFault → Type 0
Judges says said verdict = MatchResult verdict (λ _. says ≡ Ok said) (λ fault. Fails fault says)

-- a line that reads so does not fit its neighbours
abbrev pub is_unfit_here : Drafts → Above → Cut → Front → Reading → Bool
is_unfit_here drafts above cut front reading = is_unfit drafts above (line_cut cut) (lines_in cut.rest.now) front reading.label (said_of reading.what)

-- what such a line says, where nothing stands against what it says by itself
abbrev pub fitting : Drafts → Above → Cut → Front → Reading → Result Said LineFault
fitting drafts above cut front reading =
    unless_odd (is_odd drafts above (line_cut cut) (lines_in cut.rest.now) front reading.label (said_of reading.what)) (said_by front reading)

-- what a line says whose rest says this
abbrev pub saying : Names → Drafts → Above → Cut → Front → Result (Option Name × Says) Cause → Result Said LineFault
saying names drafts above cut front read =
    with_rest (labels_of (entries_of names)) drafts above (line_cut cut) (lines_in cut.rest.now) front read

abbrev pub rest_saying : InstructionSet → Names → Drafts → Above → Cut → Front → Result Said LineFault
rest_saying isa names drafts above cut front =
    saying names drafts above cut front (rest_says isa drafts (rest_of front (content (line_cut cut))))

abbrev pub line_saying : InstructionSet → Names → Drafts → Above → Cut → Result Said LineFault
line_saying isa names drafts above cut =
    line_says isa (labels_of (entries_of names)) drafts above (line_cut cut) (lines_in cut.rest.now)

-- a line whose rest reads so is judged
abbrev pub JudgesReading : Names → Drafts → Above → Cut → Front → Reading → Result Unit LineFault → Type 0
JudgesReading names drafts above cut front reading verdict =
    Judges (saying names drafts above cut front (Ok (reading.label, said_of reading.what))) (said_by front reading) verdict

-- where the text says this of a line whose rest may be read, the line is judged so
abbrev pub JudgesRead : Result Said LineFault → Front → Result Reading ReadFault → Result Unit LineFault → Type 0
JudgesRead says front read verdict =
    MatchResult verdict (λ _. IfOk read (λ reading. says ≡ Ok (said_by front reading))) (λ fault. Fails fault says)

-- an instruction has its unit written
abbrev pub HasUnit : Says → Type 0
HasUnit (Does parts) = IsTrue (is_some parts.unit)
HasUnit (Jumps parts target) = IsTrue (is_some parts.unit)
HasUnit _ = Unit {0}

-- what a line says fits into the block that is open
pub record Fits (drafts : Drafts) (said : Said) : Type 0 where
  pub unit : HasUnit said.says
  pub short : (opened drafts.current).cycles + cycles_added (is_beside said.front) said.says ≤ MOST_CYCLES
