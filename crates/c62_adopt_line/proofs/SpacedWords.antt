-- Words of a line with a blank behind each are the tokens of what they make.
use Rattle.c62_adopt_line.proofs.Common.{◌≡◌, ℕ, true, cond, eqb, List, [], ◌∷◌, ◌++◌, Option, Some, None, refl, ap}
use Rattle.c62_adopt_line.proofs.Common.{◌∙◌}
use Rattle.c62_adopt_line.proofs.Common.{arith, nat_tests, cases_Bool, inl, inr, append_assoc, AllByRecursion, codes, ℤ}
use Rattle.c62_adopt_line.proofs.Common.{pos, negsuc, Word, spells, tokens}
use Rattle.c62_adopt_line.proofs.Common.{begins, is_blank, is_double, joins, is_solid, grow}
use Rattle.std.specs.Fmt.{signed_decimal}
use Rattle.c62_token.specs.Number.{number_of}
use Rattle.c62_token.proofs.TokenLemmas.{tokens_alone, tokens_blank, tokens_joined, joined_word, word_solid}
use Rattle.c62_token.proofs.TokenLemmas.{solid_parts}
use Rattle.c62_token.proofs.SpelledNumbers.{fits, number_piece}
use Rattle.c62_adopt_line.specs.Plain.{names_branch, spaced, plain_words, renamed, operands_behind, in_accesses}
use Rattle.c62_adopt_line.specs.Plain.{accesses_in, between_brackets, counted, bytes_named}

-- a word is a token where a blank follows
abbrev pub Stands : Word → Type 0
Stands word = (rest : List ℕ) → tokens (word ++ 32 ∷ rest) ≡ word ∷ tokens rest

abbrev pub AllStand : List Word → Type 0
AllStand words = AllByRecursion Stands words

pub spaced_back : (words : List Word) → AllStand words → tokens (spaced words) ≡ words
spaced_back [] stand = refl
spaced_back (word ∷ words) stand =
    ap tokens (append_assoc word (codes " ") (spaced words)) ∙ stand.0 (spaced words)
    ∙ ap (λ (others : List Word). word ∷ others) (spaced_back words stand.1)

-- ---- the tokens of a line stand

byte_stands : (b : ℕ) → is_solid b ≡ true → Stands (b ∷ [])
byte_stands b solid rest =
    tokens_alone b 32 rest solid (grind (arith, nat_tests)) (grind (arith, nat_tests))
    ∙ ap (λ (words : List Word). (b ∷ []) ∷ words) (tokens_blank 32 rest refl refl)

double_stands : (b c : ℕ) → is_solid b ≡ true → is_double b c ≡ true → Stands (b ∷ c ∷ [])
double_stands b c solid double rest =
    let parts = solid_parts b solid in
    rw (parts.0, parts.1, double) (ap (λ (words : List Word). (b ∷ c ∷ []) ∷ words) (tokens_blank 32 rest refl refl))

joined_stands : (b c : ℕ) (w : Word) → is_solid b ≡ true → joins b c ≡ true → Stands (c ∷ w) → Stands (b ∷ c ∷ w)
joined_stands b c w solid joined stands rest = tokens_joined b c (w ++ 32 ∷ rest) solid joined
    ∙ ap (grow b) (stands rest)

-- the first token of what begins with a byte that may begin one
record BeginsSo (c : ℕ) (words : List Word) : Type 0 where
  word : Word
  others : List Word
  are : words ≡ (c ∷ word) ∷ others

first_byte : (c : ℕ) (rest : List ℕ) → is_solid c ≡ true → BeginsSo c (tokens (c ∷ rest))
first_byte c [] solid = rw solid (record { word = []; others = []; are = refl })
first_byte c (d ∷ rest) solid =
    let parts = solid_parts c solid in
    rw (parts.0, parts.1) (elim (cases_Bool (is_double c d)) [
      | inl double ↦ rw double (record { word = d ∷ []; others = tokens rest; are = refl })
      | inr single ↦ rw single (elim (cases_Bool (joins c d)) [
        | inl joined ↦ rw joined (grown (tokens (d ∷ rest)))
        | inr alone ↦ rw alone (record { word = []; others = tokens (d ∷ rest); are = refl })
      ])
    ])
  where
    grown : (words : List Word) → BeginsSo c (grow c words)
    grown [] = record { word = []; others = []; are = refl }
    grown (word ∷ words) = record { word = word; others = words; are = refl }

pub tokens_stand : (line : List ℕ) → AllStand (tokens line)
tokens_stand [] = tt
tokens_stand (b ∷ []) = elim (cases_Bool (is_solid b)) [
  | inl solid ↦ rw solid (byte_stands b solid, tt)
  | inr other ↦ rw other tt
]
tokens_stand (b ∷ c ∷ rest) = elim (cases_Bool (eqb b 59)) [
  | inl comment ↦ rw comment tt
  | inr plain ↦ rw plain (elim (cases_Bool (is_blank b)) [
    | inl blank ↦ rw blank (tokens_stand (c ∷ rest))
    | inr other ↦
        let solid : is_solid b ≡ true = grind (arith, nat_tests) in
        rw other (elim (cases_Bool (is_double b c)) [
          | inl double ↦ rw double (double_stands b c solid double, tokens_stand rest)
          | inr single ↦ rw single (elim (cases_Bool (joins b c)) [
            | inl joined ↦ rw joined
                (behind solid joined (first_byte c rest (word_solid c (joined_word b c joined)))
                (tokens_stand (c ∷ rest)))
            | inr alone ↦ rw alone (byte_stands b solid, tokens_stand (c ∷ rest))
          ])
        ])
  ])
]
  where
    behind : is_solid b ≡ true → joins b c ≡ true → BeginsSo c (tokens (c ∷ rest)) → AllStand (tokens (c ∷ rest))
        → AllStand (grow b (tokens (c ∷ rest)))
    behind solid joined so stand =
        let here : AllStand ((c ∷ so.word) ∷ so.others) = rw so.are at stand in
        rw so.are (joined_stands b c so.word solid joined here.0, here.1)

-- ---- so do the words of the line that stands for it

number_fits : (word : Word) (k : ℤ) → number_of word ≡ Some k → fits k ≡ true
unfolding number_of
number_fits word k is = grind (arith, nat_tests)

accesses_fit : (size : ℕ) (k : ℤ) → fits k ≡ true → fits (accesses_in size k) ≡ true
accesses_fit size (pos n) inside = grind (arith, nat_tests)
accesses_fit size (negsuc n) inside = refl

number_stands : (k : ℤ) → fits k ≡ true → Stands (signed_decimal k)
number_stands k inside rest =
    (number_piece k inside).splits (32 ∷ rest) refl
    ∙ ap (λ (words : List Word). signed_decimal k ∷ words) (tokens_blank 32 rest refl refl)

between_fits : (opening number closing : Word) (k : ℤ) → between_brackets opening number closing ≡ Some k
    → fits k ≡ true
between_fits opening number closing k is = number_fits number k (grind (arith, nat_tests))

counted_stand : (size : ℕ) (found : Option ℤ) (behind others : List Word) → ((k : ℤ) → found ≡ Some k → fits k ≡ true)
    → AllStand behind → AllStand others
    → AllStand (counted size found behind others)
counted_stand size None behind others inside one other = other
counted_stand size (Some k) behind others inside one other = (
  byte_stands 91 refl,
  (number_stands (accesses_in size k) (accesses_fit size k (inside k refl)), (byte_stands 93 refl, one)),
)

accesses_stand : (size : ℕ) (words : List Word) → AllStand words → AllStand (in_accesses size words)
accesses_stand size (opening ∷ number ∷ closing ∷ words) stand =
    counted_stand size (between_brackets opening number closing) (in_accesses size words) _
    (between_fits opening number closing)
    (accesses_stand size words stand.1.1.1) (stand.0, accesses_stand size (number ∷ closing ∷ words) stand.1)
accesses_stand size [] stand = tt
accesses_stand size (one ∷ []) stand = stand
accesses_stand size (one ∷ other ∷ []) stand = stand

operands_stand : (size : Option ℕ) (words : List Word) → AllStand words → AllStand (operands_behind size words)
operands_stand None words stand = stand
operands_stand (Some size) words stand = accesses_stand size words stand

renamed_stands : (word : Word) → Stands word → Stands (renamed word)
renamed_stands word stands = elim (cases_Bool (names_branch word)) [
  | inl ret ↦ rw ret (byte_stands 66 refl)
  | inr other ↦ rw other stands
]

plain_stand : (last : Word) (words : List Word) → AllStand words → AllStand (plain_words last words)
plain_stand last [] stand = tt
plain_stand last (word ∷ words) stand = (
  renamed_stands word stand.0,
  cond_stand (plain_stand word words stand.1)
      (operands_stand (bytes_named last) words stand.1),
)
  where
    cond_stand : AllStand (plain_words word words) → AllStand (operands_behind (bytes_named last) words)
        → AllStand (cond (begins (λ b. eqb b 46) word) (operands_behind (bytes_named last) words)
        (plain_words word words))
    cond_stand one other = elim (cases_Bool (begins (λ b. eqb b 46) word))
        [ inl dot ↦ rw dot other | inr plain ↦ rw plain one ]

-- the tokens of the line that stands for another
pub plain_back : (line : List ℕ) → tokens (spaced (plain_words [] (tokens line))) ≡ plain_words [] (tokens line)
plain_back line = spaced_back (plain_words [] (tokens line)) (plain_stand [] (tokens line) (tokens_stand line))
