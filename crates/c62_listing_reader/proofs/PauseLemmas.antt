-- A line of NOP says from one to nine cycles without an instruction.
use Rattle.c62_listing_reader.proofs.Common.{nat_tests, arith, ◌≡◌, ℕ, false, List, [], ◌∷◌, ◌++◌, None, Ok, refl, sym}
use Rattle.c62_listing_reader.proofs.Common.{ap, ◌∙◌, subst, codes, begins}
use Rattle.c62_listing_reader.proofs.Common.{tokens, Says, head_of, head_read, IsShort}
use Rattle.c62_token.specs.Kind.{Word}
use Rattle.c62_line.specs.Line.{is_star, label_front, rest_says, without_colon}
use Rattle.c62_line.proofs.PauseLemmas.{OkShort, nop_short}
use Rattle.c62_token.proofs.SpelledTokens.{IsToken, tokens_behind, word_token}
use Rattle.c62_op.specs.declared.set.InstructionSet.{InstructionSet}

-- ---- the words of the line

nop_token : IsToken (codes "NOP")
nop_token = word_token (codes "NOP") (omega arith) refl

nop_words : (word : List ℕ) → tokens (codes "   NOP " ++ word) ≡ codes "NOP" ∷ tokens word
nop_words word =
    rw (
      tokens_behind (codes "   ") (codes "NOP " ++ word) refl,
      nop_token.splits (32 ∷ word) refl,
      tokens_behind
          (32 ∷ []) word refl,
    ) refl

plain_words : (front words : List Word) → without_colon (label_front front) ≡ Ok (None, words) → front ≡ words
unfolding label_front
plain_words front words h = grind (arith, nat_tests)

line_words : (line : List ℕ) (words : List Word) → begins is_star line ≡ false → head_of line ≡ Ok (None, words)
    → tokens line ≡ words
line_words line words none h = plain_words (tokens line) words ((head_read line None words h).front none)

-- what the line says is short
pub short : (isa : InstructionSet) (line word : List ℕ) (words : List Word) (says : Says)
    → line ≡ codes "   NOP " ++ word
    → head_of line ≡ Ok (None, words)
    → rest_says isa words ≡ Ok says → IsShort says
short isa line word words says is head said =
    let head_is : head_of (codes "   NOP " ++ word) ≡ Ok (None, words) = sym (ap head_of is) ∙ head in
    let words_are : words ≡ codes "NOP" ∷ tokens word = sym (line_words (codes "   NOP " ++ word) words refl head_is)
    ∙ nop_words word in
    let found : OkShort (Ok says) =
    subst OkShort (ap (rest_says isa) (sym words_are) ∙ said) (nop_short isa (tokens word)) in
    found
