-- Text without directives and comments is its own code (docs/ADOPT.md, "Sections").
use Rattle.std.specs.Prelude.{◌≡◌, ℕ, Bool, true, false, List, Ok}
use Rattle.std.specs.List.{list_all}
use Rattle.c62_adopt_code.specs.Role.{Role, Silent, Acts, role_of}
use Rattle.c62_adopt_code.specs.Code.{lines_coded}
use Rattle.c62_op.specs.declared.set.InstructionSet.{InstructionSet}

abbrev pub is_plain_role : Role → Bool
is_plain_role Silent = true
is_plain_role Acts = true
is_plain_role _ = false

-- the line has neither a directive nor a comment in front
abbrev pub is_plain : List ℕ → Bool
is_plain line = is_plain_role (role_of line)

abbrev pub AreOwnCode : InstructionSet → List (List ℕ) → Type 0
AreOwnCode isa lines = list_all is_plain lines ≡ true → lines_coded isa lines ≡ Ok lines
