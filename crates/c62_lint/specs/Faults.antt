-- All faults of a serial text: of each faulty line its first (docs/FAULTS.md, "All faults at once"; docs/SERIAL_TEXT.md, "Faults
-- of a line"). A faulty line counts as an empty one for the lines behind it.
use Rattle.std.specs.Prelude.{ℕ, ◌+◌, List, [], ◌∷◌, ◌++◌, length, nat_lt, Option, Some, None, option_map, if◌then◌else◌}
use Rattle.std.specs.Option.{option_to_list}
use Rattle.c62_line.specs.declared.fault.Cause.{Cause}
use Rattle.c62_line.specs.declared.fault.Cause.TheVariants.{TextTooLong}
use Rattle.c62_line.specs.declared.fault.ReadFault.{ReadFault}
use Rattle.c62_read.specs.Text.{lines_of}
use Rattle.c62_read.specs.Program.{Name, Refusal, fault_of, labels_of, most_bytes}
use Rattle.c62_op.specs.declared.set.InstructionSet.{InstructionSet}

-- a line that has this fault, as the lines behind it see it
abbrev pub unless_faulty : Option Cause → List ℕ → List ℕ
unless_faulty None line = line
unless_faulty (Some cause) line = []

-- a fault with the number of its line, where there is one
abbrev pub at_number : ℕ → Option Cause → List Refusal
at_number number fault = option_to_list (option_map (λ cause. (number, cause)) fault)

-- the faults of these lines, which stand behind others; the labels are those of the text
unfoldable pub faults_from : InstructionSet → List Name → List (List ℕ) → List (List ℕ) → List Refusal
faults_from isa labels before [] = []
faults_from isa labels before (line ∷ lines) =
    at_number (length before + 1) (fault_of isa labels before line)
    ++ faults_from isa labels (before ++ unless_faulty (fault_of isa labels before line) line ∷ []) lines

-- the faults of a text; one that is too long has that fault alone
unfoldable pub faults_in : InstructionSet → List ℕ → List Refusal
faults_in isa text =
    if nat_lt most_bytes (length text) then (0, TextTooLong) ∷ []
    else faults_from isa (labels_of (lines_of text)) [] (lines_of text)

abbrev pub refusal_of : ReadFault → Refusal
refusal_of fault = (fault.line, fault.cause)
