-- What is told of a register that is read too early, piece by piece.
use Rattle.std.proofs.Common.{◌≡◌, refl, ℕ, [], ◌++◌, Some, append_assoc, append-nil}
use Rattle.std.specs.Prelude.{codes}
use Rattle.std.specs.Fmt.{decimal}
use Rattle.c62_op.specs.Name.{file_letter}
use Rattle.c62_adopt_late.specs.declared.late.Late.{Late}
use Rattle.c62_answer.specs.Message.{added_word, cycles_added, late_message}

pub late_pieces : (cycles : ℕ) (late : Late)
    → decimal cycles ++ (added_word cycles ++
    (codes "; " ++ (file_letter late.reg.side ++ (decimal late.reg.number ++ (codes " was read below line "
    ++ (decimal late.line ++ (codes " before it landed" ++ (codes "\n" ++ []))))))))
    ≡ (cycles_added cycles ++ late_message (Some late)) ++ codes "\n"
late_pieces cycles late = simp (append_assoc, append-nil) refl
