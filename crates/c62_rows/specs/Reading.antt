-- What lines of packets say together: rows, the labels that name them, and the labels that branches and words name (docs/EXEC.md,
-- "Rows" and "Faults of a text").
use Rattle.std.specs.Prelude.{◌≡◌, ◌⊎◌, ℕ, ◌-◌, Bool, false, not, ◌&&◌, nat_eq, nat_le, if◌then◌else◌, List, [], ◌∷◌, ◌++◌, length}
use Rattle.std.specs.Prelude.{Option, Some, None, is_some, is_none, option_map, Ok, Err}
use Rattle.std.specs.List.{position_or_len}
use Rattle.std.specs.Map.{keys_of, lookup}
use Rattle.std.specs.Option.{option_to_list, option_map_or}
use Rattle.std.specs.Str.{bytes_eq}
use Rattle.indexmap.specs.IndexMap.{insert_entry}
use Rattle.c62_insn.specs.Insn.{unit_of}
use Rattle.c62_line.specs.declared.fault.Cause.TheVariants.{ParallelBar, DuplicateLabel}
use Rattle.c62_line.specs.Line.{Parts, parts_of, Says, Nothing, Pause, Does, Jumps}
use Rattle.c62_read.specs.Program.{Name, Numbered, aimed}
use Rattle.c62_packet.specs.declared.placed.Placed.{Placed}
use Rattle.c62_adopt_line.specs.declared.fault.LineFault.{LineFault}
use Rattle.c62_adopt_line.specs.declared.fault.LineFault.TheVariants.{Read}
use Rattle.c62_adopt_line.specs.Line.{Line}
use Rattle.c62_adopt_cut.specs.Cut.{begins_packet}
use Rattle.c62_flight.specs.Text.{Row, no_row}
use Rattle.c62_rows.specs.declared.fault.RowsCause.{RowsCause}
use Rattle.c62_rows.specs.declared.fault.RowsCause.TheVariants.{Line as OfLine, TooManyTargets}
use Rattle.c62_rows.specs.Rows.{with_insn, with_idle, MayJoin, IsBreach}
use Rattle.c62_rows.specs.Word.{Said, row_says}
use Rattle.c62_rows.specs.declared.reader.TheConstants.{MOST_TARGETS}
use Rattle.c62_op.specs.declared.set.InstructionSet.{InstructionSet}

-- The rows that are over, and the one that a line with bars goes on with; each label with the row that begins below it; each label
-- that branches or words name, in the order in which they do, with the first line of one; and the label of each line that takes the
-- word of one.
pub record Reading : Type 0 where
  pub done : List Row
  pub current : Option Row
  pub labels : List (Name × ℕ)
  pub targets : List (Name × ℕ)
  pub words : List (ℕ × Name)

abbrev pub no_reading : Reading
no_reading = record { done = []; current = None; labels = []; targets = []; words = [] }

abbrev pub all_rows : Reading → List Row
all_rows reading = reading.done ++ option_to_list reading.current

-- ---- what a line does

abbrev pub closed : Reading → Reading
closed reading = record { done = all_rows reading; current = None; labels = reading.labels; targets = reading.targets; words = reading.words }

-- a label names the row that begins below it, and no packet goes on over it
abbrev pub with_label : Option Name → Reading → Reading
with_label None reading = reading
with_label (Some label) reading = record {
  done = all_rows reading;
  current = None;
  labels = reading.labels ++ (label, length (all_rows reading)) ∷ [];
  targets = reading.targets;
  words = reading.words;
}

-- an instruction or a NOP without bars begins a row
abbrev pub begun : Line → Reading → Reading
begun line reading =
    if begins_packet line then record { done = all_rows reading; current = Some no_row; labels = reading.labels; targets = reading.targets; words = reading.words }
    else reading

abbrev pub on_current : (Row → Row) → Reading → Reading
on_current change reading = record {
  done = reading.done;
  current = option_map change reading.current;
  labels = reading.labels;
  targets = reading.targets;
  words = reading.words;
}

-- the place that a label has among those that branches and words name, or will have
abbrev pub number_of : Name → Reading → ℕ
number_of target reading = position_or_len (bytes_eq target) (keys_of reading.targets)

abbrev pub is_target : Name → Reading → Bool
is_target target reading = is_some (lookup (bytes_eq target) reading.targets)

abbrev pub with_target : Name → ℕ → Reading → Reading
with_target target number reading =
    if is_target target reading then reading
    else record {
      done = reading.done;
      current = reading.current;
      labels = reading.labels;
      targets = reading.targets ++ (target, number) ∷ [];
      words = reading.words;
    }

-- the line of this number takes the word of this label
abbrev pub taking : Name → ℕ → Reading → Reading
taking name number reading = record {
  done = reading.done;
  current = reading.current;
  labels = reading.labels;
  targets = reading.targets;
  words = insert_entry nat_eq reading.words number name;
}

abbrev pub with_named : Option Name → ℕ → Reading → Reading
with_named None number reading = reading
with_named (Some name) number reading = taking name number (with_target name number reading)

-- an instruction of these parts and this line, on its written unit, in cycle 0 of its row
pub record IsPlaced (entry : Numbered) (p : Placed) : Type 0 where
  pub parts : parts_of p.insn ≡ entry.parts
  pub line : p.line ≡ entry.line
  pub cycle : p.cycle ≡ 0
  pub unit : unit_of p.insn ≡ Some p.unit

abbrev pub insns_above : Reading → List Placed
insns_above reading = option_map_or (λ row. row.insns) reading.current []

abbrev pub numbered : ℕ → Parts → Numbered
numbered number parts = record { parts = parts; line = number }

-- the instruction may join the packet, and does
pub record AddsInsn (entry : Numbered) (old new : Reading) : Type 0 where
  pub placed : Placed
  pub is : IsPlaced entry placed
  pub joins : MayJoin (insns_above old) placed
  pub adds : new ≡ on_current (with_insn placed) old

-- something stands against that
pub record Breaks (entry : Numbered) (old : Reading) (cause : RowsCause) : Type 0 where
  pub placed : Placed
  pub is : IsPlaced entry placed
  pub breach : IsBreach (insns_above old) placed cause

-- A row takes a cycle for its first line, and n - 1 more for each NOP of n cycles (SPRU189, "Multicycle NOPs").
-- An instruction may take the word of a label.
abbrev pub AddsSays : ℕ → Option Name → Says → Reading → Reading → Type 0
AddsSays number word Nothing old new = new ≡ old
AddsSays number word (Pause n) old new = new ≡ on_current (with_idle (n - 1)) old
AddsSays number word (Does parts) old new = AddsInsn (numbered number parts) (with_named word number old) new
AddsSays number word (Jumps parts target) old new =
    AddsInsn (aimed (number_of target old) (numbered number parts)) (with_target target number old) new

abbrev pub SaysBreach : ℕ → Option Name → Says → Reading → RowsCause → Type 0
SaysBreach number word (Does parts) old cause = Breaks (numbered number parts) (with_named word number old) cause
SaysBreach number word (Jumps parts target) old cause = Breaks (aimed (number_of target old) (numbered number parts)) (with_target target number old) cause
SaysBreach number word _ old cause = ⊥

-- ---- what stands against it

abbrev pub is_given : Option Name → Reading → Bool
is_given None reading = false
is_given (Some label) reading = is_some (lookup (bytes_eq label) reading.labels)

-- it is one label more than may be named
abbrev pub is_beyond : Name → Reading → Bool
is_beyond name reading = not (is_target name reading) && nat_le MOST_TARGETS (length reading.targets)

-- the word of an instruction, or a branch, names one label more
abbrev pub is_word_more : Option Name → Reading → Bool
is_word_more None reading = false
is_word_more (Some name) reading = is_beyond name reading

abbrev pub is_one_more : Option Name → Says → Reading → Bool
is_one_more word (Does parts) reading = is_word_more word reading
is_one_more word (Jumps parts target) reading = is_beyond target reading
is_one_more word _ reading = false

unfoldable pub hindrance : Said → Reading → Option RowsCause
hindrance said reading =
    if said.line.beside && is_none reading.current then Some (OfLine (Read ParallelBar))
    else (if is_given said.line.label reading then Some (OfLine (Read DuplicateLabel))
    else (if is_one_more said.word said.line.says reading then Some TooManyTargets
    else None))

-- what is read where the line's instruction stands
abbrev pub at_line : Line → Reading → Reading
at_line line reading = begun line (with_label line.label reading)

-- the line of this number says something, nothing stands against it, and that is read, too
pub record AddsLine (isa : InstructionSet) (number : ℕ) (bytes : List ℕ) (old new : Reading) : Type 0 where
  pub said : Said
  pub says : row_says isa bytes ≡ Ok said
  pub free : hindrance said old ≡ None
  pub adds : AddsSays number said.word said.line.says (at_line said.line old) new

-- the line has this fault by itself
pub record IsFaulty (isa : InstructionSet) (bytes : List ℕ) (cause : RowsCause) : Type 0 where
  pub fault : LineFault
  pub says : row_says isa bytes ≡ Err fault
  pub told : cause ≡ OfLine fault

-- or it says something, and this stands against it
pub record IsHindered (isa : InstructionSet) (number : ℕ) (bytes : List ℕ) (old : Reading) (cause : RowsCause) : Type 0 where
  pub said : Said
  pub says : row_says isa bytes ≡ Ok said
  pub hindered : (hindrance said old ≡ Some cause) ⊎ ((hindrance said old ≡ None) × SaysBreach number said.word said.line.says (at_line said.line old) cause)

abbrev pub RefusesLine : InstructionSet → ℕ → List ℕ → Reading → RowsCause → Type 0
RefusesLine isa number bytes old cause = IsFaulty isa bytes cause ⊎ IsHindered isa number bytes old cause
