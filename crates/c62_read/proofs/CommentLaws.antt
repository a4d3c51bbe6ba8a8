-- Comments change no program.
use Rattle.c62_read.proofs.Common.{◌≡◌, ℕ, List, [], ◌∷◌, ◌++◌, refl, ap, with_head, fault_in}
use Rattle.c62_line.specs.Line.{head_of, label_front, line_of, label_field}
use Rattle.c62_line.specs.Laws.{IsReadable}
use Rattle.c62_read.specs.Laws.{AreUncommented, Behind, CommentsSayNothing, IsUncommented, Same, Whole}
use Rattle.c62_read.proofs.AlikeLaws.{And, AreAlike, End, IsAlike, alike_programs}
use Rattle.c62_line.proofs.LabelFields.{star_field}
use Rattle.c62_line.proofs.CommentLines.{comment_head, comment_nothing, star_head}
use Rattle.c62_op.specs.declared.set.InstructionSet.{InstructionSet}

-- ---- lines without their comments

by_head : (isa : InstructionSet) (line other : List ℕ) → head_of line ≡ head_of other
    → label_field line ≡ label_field other
    → IsAlike isa line other
unfolding line_of
by_head isa line other head field = record { head = ap fault_in head; field = field; said = ap (with_head isa) head }

alike : (isa : InstructionSet) (line other : List ℕ) → IsUncommented line other → IsAlike isa line other
unfolding head_of label_field label_front
alike isa line other (Same e) = by_head isa line other (cc) (cc)
alike isa line other (Behind rest e readable) =
    let there : IsReadable (other ++ 59 ∷ rest) = rw e at readable in
    by_head isa line other (cc (comment_head other rest there)) (cc ((comment_nothing isa other rest there).1))
alike isa line other (Whole rest e f readable) = rw f
    (by_head isa line [] (star_head line readable (rw e refl)) (star_field line (rw e refl)))

all_alike : (isa : InstructionSet) (lines others : List (List ℕ)) → AreUncommented lines others
    → AreAlike isa lines others
all_alike isa [] [] same = End
all_alike isa (line ∷ lines) (other ∷ others) same =
    And (alike isa line other same.0) (all_alike isa lines others same.1)
all_alike isa lines others same = absurd same

pub comments_nothing : (isa : InstructionSet) (text other : List ℕ) → CommentsSayNothing isa text other
comments_nothing isa text other short few same = alike_programs isa text other short few (all_alike isa _ _ same)
