-- The first fault of a text is the one that it is refused for.
use Rattle.std.specs.Prelude.{◌≡◌, ℕ, List, [], ◌∷◌, Option, Some, None}
use Rattle.std.specs.Result.{result_err}
use Rattle.c62_read.specs.Program.{Refusal, program_in}
use Rattle.c62_lint.specs.Faults.{faults_in}
use Rattle.c62_op.specs.declared.set.InstructionSet.{InstructionSet}

abbrev pub first_among : List Refusal → Option Refusal
first_among [] = None
first_among (refusal ∷ others) = Some refusal

-- the first of a text's faults is what the reader refuses it for, and there is none exactly where it is read
abbrev pub FirstIsTheRefusal : InstructionSet → List ℕ → Type 0
FirstIsTheRefusal isa text = first_among (faults_in isa text) ≡ result_err (program_in isa text)
