-- A comment changes no line.
use Rattle.c62_line.proofs.Common.{◌≡◌, ℕ, true, List, [], ◌∷◌, ◌++◌, None, Ok, refl, ap, arith, length-append}
use Rattle.c62_line.proofs.Common.{nat_tests, list_all-append, begins}
use Rattle.c62_line.proofs.Common.{is_allowed, Word, is_star, with_head}
use Rattle.std.specs.Prelude.{IsTrue}
use Rattle.c62_line.specs.Line.{head_of, label_front, line_of, rest_says, label_field}
use Rattle.c62_line.specs.Laws.{CommentSaysNothing, IsReadable, StarSaysNothing}
use Rattle.c62_token.proofs.TokenLaws.{tokens_before_comment}
use Rattle.c62_line.proofs.LabelFields.{star_field}
use Rattle.c62_op.specs.declared.set.InstructionSet.{InstructionSet}

-- ---- a star

pub star_head : (line : List ℕ) → IsReadable line → begins is_star line ≡ true → head_of line ≡ Ok (None, [])
unfolding head_of
star_head line readable star = grind (arith, nat_tests)

pub star_nothing : (isa : InstructionSet) (line : List ℕ) → IsReadable line → IsTrue (begins is_star line)
    → StarSaysNothing isa line
unfolding line_of rest_says
star_nothing isa line readable star = (rw (star_head line readable star) refl, star_field line star)

-- ---- behind a semicolon

front_readable : (line rest : List ℕ) → IsReadable (line ++ 59 ∷ rest) → IsReadable line
front_readable line rest readable = grind
    (arith, nat_tests, list_all-append is_allowed line (59 ∷ rest), length-append line (59 ∷ rest))

pub comment_head : (line rest : List ℕ) → IsReadable (line ++ 59 ∷ rest) → head_of (line ++ 59 ∷ rest) ≡ head_of line
unfolding head_of
comment_head line rest readable = grind
    (arith, nat_tests, front_readable line rest readable, tokens_before_comment line rest)

pub comment_nothing : (isa : InstructionSet) (line rest : List ℕ) → IsReadable (line ++ 59 ∷ rest)
    → CommentSaysNothing isa line rest
unfolding line_of label_field
comment_nothing isa line rest readable = (
  ap (with_head isa) (comment_head line rest readable),
  ap (λ (words : List Word). (label_front words).0)
      (tokens_before_comment line rest),
)
