-- Parts as the code has them.
use Rattle.std.specs.Prelude.{◌≡◌, ◌≤◌, ℕ, ◌+◌, List, ◌∷◌, ◌++◌, map, Option}
use Rattle.c62_reach.specs.declared.part.Part.{Part as PartRead}
use Rattle.c62_reach.specs.declared.part.Growing.{Growing as GrowingRead}
use Rattle.c62_reach.specs.declared.part.Reader.{Reader}
use Rattle.c62_read.specs.Program.{Name}
use Rattle.c62_reach.specs.File.{files_below}
use Rattle.c62_reach.specs.Part.{Part, Growing, label_at, parts_below, with_line}
use Rattle.c62_op.specs.declared.set.InstructionSet.{InstructionSet}

abbrev pub part_read : PartRead → Part
part_read part = record { label = part.label; file = part.file; names = part.names.items; runs_on = part.runs_on }

abbrev pub growing_read : GrowingRead → Growing
growing_read last = record { label = last.label; file = last.file; names = last.names.items; way = last.way }

abbrev pub IsYoung : GrowingRead → Type 0
IsYoung last = last.way.age ≤ 6

-- the parts where these lines stand below those that were read
abbrev pub parts_at : InstructionSet → Reader → List (List ℕ) → List Part
parts_at isa reader lines = map part_read reader.done.items ++ parts_below isa reader.files (growing_read reader.last) lines

-- a part begins at a line with this label, where it has one: lines below come to what they come to with that line
pub record BeginsAt (isa : InstructionSet) (label : Option Name) (old new : Reader) : Type 0 where
  pub young : IsYoung new.last
  pub files : new.files ≡ old.files
  pub so_far : (line : List ℕ) (lines : List (List ℕ)) → label ≡ label_at line
      → map part_read new.done.items ++ parts_below isa (files_below new.files line) (with_line isa line (growing_read new.last)) lines ≡ parts_at isa old (line ∷ lines)

-- a line is read: all lines below it come to the same
pub record AddsLine (isa : InstructionSet) (line : List ℕ) (old new : Reader) : Type 0 where
  pub young : IsYoung new.last
  pub files : new.files ≤ old.files + 1
  pub so_far : (lines : List (List ℕ)) → parts_at isa new lines ≡ parts_at isa old (line ∷ lines)
