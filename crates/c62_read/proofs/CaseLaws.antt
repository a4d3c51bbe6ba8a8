-- Texts that differ in the case of letters only are one program, where labels keep theirs.
use Rattle.c62_read.proofs.Common.{◌≡◌, ℕ, List, [], ◌∷◌}
use Rattle.c62_line.specs.Laws.{IsRecased, target_in}
use Rattle.c62_read.specs.Laws.{AreRecased, CaseChangesNothing}
use Rattle.c62_line.specs.Line.{label_field, line_of}
use Rattle.c62_read.proofs.AlikeLaws.{And, AreAlike, End, IsAlike, alike_programs}
use Rattle.c62_line.proofs.CaseLines.{head_same, line_as_other}
use Rattle.c62_op.specs.declared.set.InstructionSet.{InstructionSet}

alike : (isa : InstructionSet) (line other : List ℕ) → IsRecased 32 line other → label_field line ≡ label_field other
    → target_in (line_of isa line) ≡ target_in (line_of isa other)
    → IsAlike isa line other
alike isa line other same field targets =
    record { head = head_same line other same; field = field; said = line_as_other isa line other same field targets }

all_alike : (isa : InstructionSet) (lines others : List (List ℕ)) → AreRecased isa lines others
    → AreAlike isa lines others
all_alike isa [] [] same = End
all_alike isa (line ∷ lines) (other ∷ others) ((same, field, targets), later) =
    And (alike isa line other same field targets)
    (all_alike isa lines others later)
all_alike isa lines others same = absurd same

pub case_changes_nothing : (isa : InstructionSet) (text other : List ℕ) → CaseChangesNothing isa text other
case_changes_nothing isa text other short few same = alike_programs isa text other short few (all_alike isa _ _ same)
