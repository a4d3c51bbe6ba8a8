-- What is told of what came of a call.
use Rattle.std.specs.Prelude.{ℕ, List, [], ◌++◌, Option, Some, None, codes}
use Rattle.std.specs.Fmt.{radix_digits}
use Rattle.std.specs.Prelude.{false}
use Rattle.c62_refusals.specs.declared.twice.Came.{Came}
use Rattle.c62_refusals.specs.declared.twice.Came.TheVariants.{Answer, Again, Memory, Changed}

-- the line of an answer: its digits to the base 16
abbrev pub answer_line : ℕ → List ℕ
answer_line answer = radix_digits 16 false answer ++ codes "\n"

-- what goes to the output
abbrev pub output_of : Option Came → List ℕ
output_of (Some (Answer answer)) = answer_line answer
output_of (Some (Again answer)) = answer_line answer
output_of (Some Changed) = codes "changed\n"
output_of (Some Memory) = []
output_of None = []

-- what goes to the error stream
abbrev pub note_of : Option Came → List ℕ
note_of (Some (Again answer)) = codes "again\n"
note_of (Some (Answer answer)) = []
note_of (Some Changed) = []
note_of (Some Memory) = []
note_of None = []

-- the status
abbrev pub status_of : Option Came → ℕ
status_of (Some (Answer answer)) = 0
status_of (Some (Again answer)) = 0
status_of (Some Changed) = 1
status_of (Some Memory) = 3
status_of None = 3
