-- A comment changes no line of packets.
use Rattle.c62_adopt_line.proofs.Common.{◌≡◌, arith, ◌∙◌, ap, length, sym, ℕ, List, [], refl, true, ◌∷◌, false, None}
use Rattle.c62_adopt_line.proofs.Common.{Bool, Option, ◌++◌, Some, cond, eqb, ◌&&◌, not, ◌||◌, inl, inr, cases_Bool}
use Rattle.c62_adopt_line.proofs.Common.{nat_tests, codes, Word}
use Rattle.c62_adopt_line.proofs.Common.{tokens, begins, is_blank, subst}
use Rattle.std.proofs.Common.{length-append}
use Rattle.std.specs.Prelude.{drop, nat_eq, nat_lt, option_map, take_while}
use Rattle.std.specs.List.{list_all, list_any, starts_with}
use Rattle.std.proofs.lemmas.List.Folds.{list_all-append}
use Rattle.std.proofs.lemmas.List.Sums.{take_while-cons}
use Rattle.c62_token.specs.Token.{is_allowed}
use Rattle.c62_token.proofs.TokenLaws.{tokens_before_comment}
use Rattle.c62_line.specs.Laws.{IsReadable}
use Rattle.c62_line.specs.Line.{is_star, label_field, label_front}
use Rattle.c62_line.specs.Unit.{is_dot}
use Rattle.c62_adopt_line.specs.Laws.{CommentSaysNothing}
use Rattle.c62_adopt_line.specs.Line.{behind_bars, behind_colon, directive_says, from_solid, has_colon}
use Rattle.c62_adopt_line.specs.Line.{instruction_says, line_says, plain_says, statement_says, with_bars, with_label}
use Rattle.c62_adopt_line.specs.Line.{words_say}
use Rattle.c62_adopt_line.specs.Plain.{undotted}
use Rattle.c62_adopt_line.proofs.Labels.{no_colon_no_label}
use Rattle.c62_line.specs.declared.limits.TheConstants.{MOST_LINE}
use Rattle.c62_op.specs.declared.set.InstructionSet.{InstructionSet}

-- ---- a statement

-- a comment of which dots were replaced is one
dots_comment : (behind : Bool) (line rest : List ℕ) → (more : List ℕ)
    × (undotted behind (line ++ 59 ∷ rest) ≡ undotted behind line ++ 59 ∷ more)
dots_comment behind [] rest = (undotted (eqb 59 46 || behind) rest, refl)
dots_comment behind (b ∷ line) rest =
    let later = dots_comment (eqb b 46 || behind) line rest in
    (later.0, ap (λ (bytes : List ℕ). (cond (eqb b 46 && behind) 95 b) ∷ bytes) later.1)

dotted_tokens : (behind : Bool) (line rest : List ℕ)
    → tokens (undotted behind (line ++ 59 ∷ rest)) ≡ tokens (undotted behind line)
dotted_tokens behind line rest =
    let split = dots_comment behind line rest in
    ap tokens split.1 ∙ tokens_before_comment (undotted behind line) split.0

code_of : (line rest : List ℕ)
    → take_while (λ b. not (eqb b 59)) (line ++ 59 ∷ rest) ≡ take_while (λ b. not (eqb b 59)) line
code_of [] rest = refl
code_of (b ∷ line) rest =
    rw (take_while-cons (λ c. not (eqb c 59)) b (line ++ 59 ∷ rest), take_while-cons (λ c. not (eqb c 59)) b line)
    (ap (λ (bytes : List ℕ). cond (not (eqb b 59)) (b ∷ bytes) []) (code_of line rest))

instruction_comment : (isa : InstructionSet) (line rest : List ℕ)
    → instruction_says isa (line ++ 59 ∷ rest) ≡ instruction_says isa line
unfolding instruction_says
instruction_comment isa line rest =
    let colon : has_colon (line ++ 59 ∷ rest) ≡ has_colon line = ap (λ (code : List ℕ). list_any (λ b. eqb b 58) code)
    (code_of line rest) in
    rw (colon, dotted_tokens false line rest) refl

words_comment : (isa : InstructionSet) (beside : Bool) (line rest : List ℕ) (words : List Word)
    → words_say isa beside (line ++ 59 ∷ rest) words ≡ words_say isa beside line words
words_comment isa beside line rest [] = refl
words_comment isa beside line rest (word ∷ words) = ap
    (λ says. cond (begins is_dot word) (directive_says beside (word ∷ words)) says) (instruction_comment isa line rest)

statement_comment : (isa : InstructionSet) (beside : Bool) (line rest : List ℕ)
    → statement_says isa beside (line ++ 59 ∷ rest) ≡ statement_says isa beside line
unfolding statement_says
statement_comment isa beside line rest =
    ap (words_say isa beside (line ++ 59 ∷ rest)) (tokens_before_comment line rest)
    ∙ words_comment isa beside line rest (tokens line)

-- ---- the front of a line

solid_comment : (line rest : List ℕ) → from_solid (line ++ 59 ∷ rest) ≡ from_solid line ++ 59 ∷ rest
solid_comment [] rest = refl
solid_comment (b ∷ line) rest = elim (cases_Bool (is_blank b)) [
  | inl blank ↦ rw blank (solid_comment line rest)
  | inr solid ↦ rw solid refl
]

-- behind the bars there is the same with the comment
bars_of : (line rest : List ℕ)
    → (cond (starts_with nat_eq (line ++ 59 ∷ rest) (codes "||")) (Some (drop 2 (line ++ 59 ∷ rest))) None)
    ≡ option_map (λ bytes. bytes ++ 59 ∷ rest) (cond (starts_with nat_eq line (codes "||")) (Some (drop 2 line)) None)
bars_of [] rest = refl
bars_of (x ∷ []) rest = elim (cases_Bool (eqb 124 x)) [ inl bar ↦ rw bar refl | inr other ↦ rw other refl ]
bars_of (x ∷ y ∷ line) rest = elim (cases_Bool (starts_with nat_eq (x ∷ y ∷ line) (codes "||"))) [
  | inl bars ↦ rw bars refl
  | inr none ↦ rw none refl
]

bars_comment : (line rest : List ℕ)
    → behind_bars (line ++ 59 ∷ rest) ≡ option_map (λ bytes. bytes ++ 59 ∷ rest) (behind_bars line)
bars_comment line rest = rw (solid_comment line rest) (bars_of (from_solid line) rest)

field_comment : (line rest : List ℕ)
    → label_field (undotted true (line ++ 59 ∷ rest)) ≡ label_field (undotted true line)
unfolding label_field
field_comment line rest = ap (λ (words : List Word). (label_front words).0) (dotted_tokens true line rest)

colon_comment : (line rest : List ℕ) → list_any (λ b. eqb b 58) line ≡ true
    → behind_colon (line ++ 59 ∷ rest) ≡ behind_colon line ++ 59 ∷ rest
colon_comment [] rest some = absurd cc
colon_comment (b ∷ line) rest some = elim (cases_Bool (eqb b 58)) [
  | inl colon ↦ rw colon refl
  | inr other ↦ rw other (colon_comment line rest (rw other at some))
]

-- a line that has a label has a colon
has_colon_by : (line : List ℕ) (label : Word) (b : Bool) → list_any (λ c. eqb c 58) line ≡ b
    → label_field (undotted true line) ≡ Some label → b ≡ true
has_colon_by line label true is some = refl
has_colon_by line label false is some = let none = no_colon_no_label line is in absurd cc

label_comment : (isa : InstructionSet) (line rest : List ℕ) (field : Option Word)
    → label_field (undotted true line) ≡ field
    → with_label isa (line ++ 59 ∷ rest) field ≡ with_label isa line field
label_comment isa line rest None is = rw (statement_comment isa false line rest) refl
label_comment isa line rest (Some label) is =
    let some = has_colon_by line label (list_any (λ c. eqb c 58) line) refl is in
    rw (colon_comment line rest some, statement_comment isa false (behind_colon line) rest) refl

front_comment : (isa : InstructionSet) (line rest : List ℕ) (bars : Option (List ℕ))
    → with_bars isa (line ++ 59 ∷ rest) (option_map (λ bytes. bytes ++ 59 ∷ rest) bars) ≡ with_bars isa line bars
front_comment isa line rest None = ap (with_label isa (line ++ 59 ∷ rest)) (field_comment line rest)
    ∙ label_comment isa line rest (label_field (undotted true line)) refl
front_comment isa line rest (Some behind) = rw (statement_comment isa true behind rest) refl

-- ---- a line

star_comment : (line rest : List ℕ) → begins is_star (line ++ 59 ∷ rest) ≡ begins is_star line
star_comment [] rest = refl
star_comment (b ∷ line) rest = refl

pub comment_nothing : (isa : InstructionSet) (line rest : List ℕ) → CommentSaysNothing isa line rest
unfolding line_says
comment_nothing isa line rest readable =
    let allowed : list_all is_allowed line ≡ true = grind
    (arith, nat_tests, list_all-append is_allowed line (59 ∷ rest)) in
    let short : nat_lt MOST_LINE (length line) ≡ false = grind (arith, nat_tests, length-append line (59 ∷ rest)) in
    let whole : nat_lt MOST_LINE (length (line ++ 59 ∷ rest)) ≡ false = grind (arith, nat_tests) in
    let says = ap (with_bars isa (line ++ 59 ∷ rest)) (bars_comment line rest)
    ∙ front_comment isa line rest (behind_bars line) in
    rw (readable.0, whole, allowed, short, star_comment line rest, says) refl
