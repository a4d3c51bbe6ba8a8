-- The words of the registers of one number.
use Rattle.std.proofs.Common.{◌≡◌, ℕ, ◌+◌, ◌*◌, ◌<◌, List, length, slice_set, rules, arith}
use Rattle.std.specs.Prelude.{slice_index}
use Rattle.std.proofs.lemmas.List.{get_or-set_same, get_or-set_other, length-set}
use Rattle.c62_op.specs.declared.register.Side.{Side}
use Rattle.c62_op.specs.declared.register.Side.TheVariants.{A, B}
use Rattle.c62_op.specs.Register.{first_of}
use Rattle.c62_refusals.specs.Opening.{word_on}

-- both are set, each to its word
pub words_set : (words : List ℕ) (n a b : ℕ) (side : Side) → length words ≡ 32 → n < 16 → a ≡ 9 * n → b ≡ 9 * n + 5
    → slice_index (slice_set (slice_set words n a) (16 + n) b) (first_of side + n) ≡ word_on side n
words_set words n a b A many low first second = grind (arith, get_or-set_same, get_or-set_other)
words_set words n a b B many low first second = grind (arith, get_or-set_same, get_or-set_other, length-set)
