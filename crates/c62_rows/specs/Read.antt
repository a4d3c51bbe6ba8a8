-- What is read of a text, as the code has it, and what its steps do.
use Rattle.std.specs.Prelude.{◌≡◌, ◌⊎◌, ℕ, ◌<◌, ◌≤◌, ◌^◌, List, length, map, All, option_map, Option, Some, None, MatchOption, IfSome, Result, MatchResult}
use Rattle.std.specs.declared.alloc.AllocError.{AllocError}
use Rattle.c62_line.specs.Line.{Says, Pause}
use Rattle.c62_read.specs.Program.{Name, Numbered}
use Rattle.c62_adopt_line.specs.declared.fault.LineFault.{LineFault}
use Rattle.c62_adopt_line.specs.declared.fault.LineFault.TheVariants.{Memory}
use Rattle.c62_adopt_line.specs.Line.{line_written}
use Rattle.c62_rows.specs.declared.reader.Reader.{Reader}
use Rattle.c62_rows.specs.declared.word.Said.{Said as SaidRead}
use Rattle.c62_rows.specs.declared.fault.RowsCause.{RowsCause}
use Rattle.c62_rows.specs.declared.fault.RowsCause.TheVariants.{Line as OfLine}
use Rattle.c62_rows.specs.Rows.{row_read}
use Rattle.c62_rows.specs.Word.{Said}
use Rattle.c62_rows.specs.Reading.{Reading, insns_above, hindrance, at_line, AddsInsn, Breaks, AddsSays, SaysBreach, AddsLine, RefusesLine}
use Rattle.c62_rows.specs.declared.reader.TheConstants.{MOST_TARGETS}
use Rattle.c62_op.specs.declared.set.InstructionSet.{InstructionSet}

abbrev pub reading_of : Reader → Reading
reading_of reader = record {
  done = map row_read reader.done.items;
  current = option_map row_read reader.current;
  labels = reader.labels.entries;
  targets = reader.targets.entries;
  words = reader.words.entries;
}

-- what a line says, as the code has it
abbrev pub said_read : SaidRead → Said
said_read said = record { line = line_written said.line; word = said.word }

-- the open packet's cycles can be counted further, its instructions stand in cycle 0, and the labels that branches and words name in a byte
pub record IsReady (reading : Reading) : Type 0 where
  pub idle : IfSome reading.current (λ row. row.idle < 2 ^ 31)
  pub cycles : All (λ p. p.cycle ≡ 0) (insns_above reading)
  pub targets : length reading.targets ≤ MOST_TARGETS

-- the instruction is added, or this stands against it
abbrev pub TellsOfInsn : Numbered → Reader → Reader → Option RowsCause → Type 0
TellsOfInsn entry old new told = MatchOption told (AddsInsn entry (reading_of old) (reading_of new)) (Breaks entry (reading_of old))

-- the cycles of a NOP are kept in a byte
abbrev pub IsShort : Says → Type 0
IsShort (Pause n) = n ≤ 255
IsShort _ = Unit {0}

-- what is said is added
pub record AddsShort (number : ℕ) (word : Option Name) (says : Says) (old new : Reading) : Type 0 where
  pub short : IsShort says
  pub adds : AddsSays number word says old new

abbrev pub TellsOfSays : ℕ → Option Name → Says → Reader → Reader → Option RowsCause → Type 0
TellsOfSays number word says old new told =
    MatchOption told (AddsShort number word says (reading_of old) (reading_of new)) (SaysBreach number word says (reading_of old))

-- so it is of a line that says something by itself
pub record AddsSaid (number : ℕ) (said : Said) (old new : Reading) : Type 0 where
  pub free : hindrance said old ≡ None
  pub adds : AddsShort number said.word said.line.says (at_line said.line old) new

abbrev pub RefusesSaid : ℕ → Said → Reading → RowsCause → Type 0
RefusesSaid number said old cause =
    (hindrance said old ≡ Some cause) ⊎ ((hindrance said old ≡ None) × SaysBreach number said.word said.line.says (at_line said.line old) cause)

abbrev pub TellsOfSaid : ℕ → Said → Reader → Reader → Option RowsCause → Type 0
TellsOfSaid number said old new told =
    MatchOption told (AddsSaid number said (reading_of old) (reading_of new)) (RefusesSaid number said (reading_of old))

-- and of any line
pub record AddsShortLine (isa : InstructionSet) (number : ℕ) (bytes : List ℕ) (old new : Reading) : Type 0 where
  pub adds : AddsLine isa number bytes old new
  pub short : IsShort adds.said.line.says

abbrev pub TellsOfLine : InstructionSet → ℕ → List ℕ → Reader → Reader → Option RowsCause → Type 0
TellsOfLine isa number bytes old new told =
    MatchOption told (AddsShortLine isa number bytes (reading_of old) (reading_of new)) (RefusesLine isa number bytes (reading_of old))

-- memory that ran out is no fault of a line
abbrev pub TellsCause : LineFault → Result RowsCause AllocError → Type 0
TellsCause fault told = MatchResult told (λ cause. (cause ≡ OfLine fault) × (fault ≡ Memory → ⊥)) (λ memory. fault ≡ Memory)
