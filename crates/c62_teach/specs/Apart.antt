-- What is told of accesses that are promised to be apart in a serial run (docs/CHECK.md, "A run that is looked at").
use Rattle.std.specs.Prelude.{◌≡◌, ◌⊎◌, ℕ, ◌==◌, Bool, false, not, List, [], ◌∷◌, length}
use Rattle.c62_op.specs.declared.register.Reg.{Reg}
use Rattle.c62_read.specs.Block.{Serial}
use Rattle.c62_serial.specs.State.{Machine}
use Rattle.c62_apart.specs.declared.marks.Meeting.{Meeting}
use Rattle.c62_apart.specs.Met.{FindsMeetings}
use Rattle.c62_apart.specs.Sentence.{lines_of}
use Rattle.c62_command.specs.declared.setting.Setting.{Setting}
use Rattle.c62_command.specs.declared.command.Course.{Course}
use Rattle.c62_command.specs.CommandLine.{Ask, SerialReport, Document}
use Rattle.c62_answer.specs.Texts.{IsNoProgram, SaysProgram}
use Rattle.c62_answer.specs.Run.{IsOpening}
use Rattle.c62_op.specs.declared.set.InstructionSet.{InstructionSet}

-- Of a program's serial run from zeros with these settings: a line for each meeting of accesses from two of these registers, and one for each
-- loop that has none; and whether there is one.
pub record WatchesRun (program : List Serial) (settings : List Setting) (course : Course) (apart : List Reg) (lines : List ℕ) (meets : Bool)
    : Type 0 where
  pub opening : Machine
  pub begin : IsOpening settings opening
  pub met : List Meeting
  pub found : FindsMeetings program apart opening course.blocks met
  pub told : lines ≡ lines_of opening.base program met
  pub whether : meets ≡ not (length met == 0)

abbrev pub IsUntold : (lines : List ℕ) (meets : Bool) → Type 0
IsUntold lines meets = (lines ≡ []) × (meets ≡ false)

-- the text says a program, of whose run this is told, or none, and nothing is told
abbrev pub WatchesText : InstructionSet → List Setting → Course → (apart : List Reg) → (text lines : List ℕ) → (meets : Bool) → Type 0
WatchesText isa settings course apart text lines meets =
    ((program : List Serial) × SaysProgram isa text program × WatchesRun program settings course apart lines meets)
    ⊎ ((message : List ℕ) × IsNoProgram isa text message × IsUntold lines meets)

-- where no registers are named, nothing is told
abbrev pub WatchesNamed : InstructionSet → List Setting → Course → (apart : List Reg) → (text lines : List ℕ) → (meets : Bool) → Type 0
WatchesNamed isa settings course [] text lines meets = IsUntold lines meets
WatchesNamed isa settings course (reg ∷ regs) text lines meets = WatchesText isa settings course (reg ∷ regs) text lines meets

-- of a serial run that names some this is told, and of all else nothing
abbrev pub TellsApart : InstructionSet → Ask → (text lines : List ℕ) → (meets : Bool) → Type 0
TellsApart isa (SerialReport course settings apart) text lines meets = WatchesNamed isa settings course apart text lines meets
TellsApart isa (Document ask) text lines meets = TellsApart isa ask text lines meets
TellsApart isa ask text lines meets = IsUntold lines meets
