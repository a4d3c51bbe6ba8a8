-- One word more, or a number in brackets, is written.
use Rattle.std.proofs.Common.{◌≡◌, ◌<◌, ◌∙◌, ap, sym, refl, ℕ, ℤ, List, [], ◌∷◌, ◌++◌, Bool, true, false, Option, Some}
use Rattle.std.proofs.Common.{None, length, append_assoc, append-nil, arith}
use Rattle.std.specs.Prelude.{codes}
use Rattle.std.specs.Fmt.{signed_decimal}
use Rattle.std.proofs.lemmas.Bool.Decides.{nat_tests}
use Rattle.c62_token.specs.Kind.{Word}
use Rattle.c62_adopt_line.specs.Plain.{IsRound, between_brackets, spaced}
use Rattle.c62_adopt_spell.specs.Bracket.{dropped, is_base, unbracketed}

number_first : (words behind : List Word) (k : ℤ) → IsRound words (Some k) behind
    → (unbracketed false words ≡ signed_decimal k ∷ unbracketed false behind) × (length behind < length words)
number_first [] behind k is = absurd cc
number_first (one ∷ []) behind k is = absurd cc
number_first (one ∷ other ∷ []) behind k is = absurd cc
number_first (opening ∷ number ∷ closing ∷ words) behind k is =
    let same : behind ≡ words = is.1 refl in
    rw (is.0, same) (refl, omega arith)

word_first : (base : Bool) (word : Word) (words : List Word) → (base ≡ false → IsRound (word ∷ words) None [])
    → unbracketed base (word ∷ words) ≡ word ∷ unbracketed (is_base word) words
word_first base word [] loose = refl
word_first base word (one ∷ []) loose = refl
word_first true word (one ∷ other ∷ words) loose = refl
word_first false word (one ∷ other ∷ words) loose = rw (loose refl).0 refl

-- what was written of a list's first words, with the others behind it
on : (old new : List ℕ) (word : Word) (all others : List Word) → new ≡ old ++ spaced (word ∷ []) → all ≡ word ∷ others
    → new ++ spaced others ≡ old ++ spaced all
on old new word all others written is = rw (written, is) (simp (append_assoc, append-nil) refl)

pub number_next : (base : Bool) (old new : List ℕ) (words behind : List Word) (k : ℤ) → (base ≡ false)
    × IsRound words (Some k) behind
    → new ≡ old ++ spaced (signed_decimal k ∷ [])
    → (new ++ spaced (unbracketed false behind) ≡ old ++ spaced (unbracketed base words))
    × (length behind < length words)
number_next base old new words behind k (loose, is) written =
    let first = number_first words behind k is in
    rw loose (
      on old new (signed_decimal k) (unbracketed false words) (unbracketed false behind) written first.0,
      first.1,
    )

pub word_next : (base : Bool) (old new : List ℕ) (all words : List Word) (word : Word)
    → (base ≡ false → IsRound all None []) → all ≡ word ∷ words
    → new ≡ old ++ spaced (word ∷ [])
    → (new ++ spaced (unbracketed (is_base word) words) ≡ old ++ spaced (unbracketed base all))
    × (length words < length all)
word_next base old new all words word loose is written =
    let given : base ≡ false → IsRound (word ∷ words) None [] = rw is at loose in
    rw is (
      on old new word (unbracketed base (word ∷ words)) (unbracketed (is_base word) words) written
          (word_first base word words given),
      omega arith,
    )
