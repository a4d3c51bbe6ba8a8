-- Lines of serial text that read the same here.
use Rattle.c62_adopt_line.proofs.Common.{◌≡◌, ℕ, ◌≤◌, true, false, Bool, cond, not, eqb, List, [], ◌∷◌, ◌++◌, Option}
use Rattle.c62_adopt_line.proofs.Common.{Some, None, refl, sym, ap, ◌∙◌, arith}
use Rattle.c62_adopt_line.proofs.Common.{nat_tests, cases_Bool, inl, inr, Word, spells, tokens, begins, is_blank, grow}
use Rattle.c62_adopt_line.proofs.Common.{length, codes}
use Rattle.std.proofs.Common.{Ok, Err, Result, ltb}
use Rattle.std.proofs.lemmas.Bool.{both_ways, not-true}
use Rattle.std.specs.Prelude.{nat_eq}
use Rattle.std.specs.List.{list_all, list_any, starts_with}
use Rattle.std.specs.Char.{to_ascii_lowercase}
use Rattle.std.proofs.lemmas.List.Sums.{take_while-cons}
use Rattle.c62_token.specs.Token.{is_allowed}
use Rattle.c62_token.proofs.TokenLemmas.{either, on_test, tokens_blank}
use Rattle.c62_line.specs.declared.fault.Cause.{Cause}
use Rattle.c62_line.specs.declared.fault.Cause.TheVariants.{NotAscii, LineTooLong, ParallelBar}
use Rattle.c62_line.specs.Line.{Says, Nothing, Pause, Does, Jumps, head_of, is_bars, is_star, label_front, line_of}
use Rattle.c62_line.specs.Line.{rest_says, with_head, with_rest, without_colon}
use Rattle.c62_line.specs.Unit.{is_dot}
use Rattle.c62_line.proofs.HeadLemmas.{no_colon_at_all, no_label}
use Rattle.c62_adopt_line.specs.Plain.{in_accesses, names_branch, operands_behind, plain_words, bytes_named, undotted}
use Rattle.c62_adopt_line.specs.Line.{behind_bars, from_solid, has_colon, instruction_says, line_said, line_says}
use Rattle.c62_adopt_line.specs.Line.{statement_says, with_unit, words_say}
use Rattle.c62_adopt_line.specs.Laws.{HasUnit, IsPlain, ReadsAsSerial, has_one_dot, has_return}
use Rattle.c62_adopt_line.proofs.Labels.{no_colon_no_label}
use Rattle.c62_line.specs.declared.limits.TheConstants.{MOST_LINE}
use Rattle.c62_op.specs.declared.set.InstructionSet.{InstructionSet}

-- ---- dots

pub undotted_none : (line : List ℕ) → list_any (λ b. eqb b 46) line ≡ false → undotted true line ≡ line
undotted_none [] none = refl
undotted_none (b ∷ line) none =
    let other : eqb b 46 ≡ false = grind (arith, nat_tests) in
    rw other (ap (λ (bytes : List ℕ). b ∷ bytes) (undotted_none line (grind (arith, nat_tests))))

undotted_one : (line : List ℕ) → has_one_dot line ≡ true → undotted false line ≡ line
undotted_one [] one = refl
undotted_one (b ∷ line) one = elim (cases_Bool (eqb b 46)) [
  | inl dot ↦ rw dot (ap (λ (bytes : List ℕ). b ∷ bytes) (undotted_none line (not-true _ (rw dot at one))))
  | inr other ↦ rw other (ap (λ (bytes : List ℕ). b ∷ bytes) (undotted_one line (rw other at one)))
]

-- ---- words

round_grown : (b : ℕ) (words : List Word) → eqb b 40 ≡ false → list_any (λ word. spells (codes "(") word) words ≡ false
    → list_any (λ word. spells (codes "(") word) (grow b words) ≡ false
round_grown b words other none = grind (arith, nat_tests)

-- a line without round brackets has no word that is one
no_round_at_all : (line : List ℕ) → list_any (λ b. eqb b 40) line ≡ false
    → list_any (λ word. spells (codes "(") word) (tokens line) ≡ false
no_round_at_all (b ∷ c ∷ rest) none =
    let other : eqb b 40 ≡ false = grind (arith, nat_tests) in
    let small : eqb (to_ascii_lowercase b) 40 ≡ false = grind (arith, nat_tests) in
    let later = no_round_at_all (c ∷ rest) (grind (arith, nat_tests)) in
    let last = no_round_at_all rest (grind (arith, nat_tests)) in
    simp (
      on_test (list_any (λ (word : Word). spells (codes "(") word)),
      small,
      later,
      round_grown b (tokens (c ∷ rest))
          other later,
      last,
      either,
    )
no_round_at_all line none = grind (arith, nat_tests)

accesses_same : (size : ℕ) (words : List Word) → list_any (λ word. spells (codes "(") word) words ≡ false
    → in_accesses size words ≡ words
accesses_same size (opening ∷ number ∷ closing ∷ words) none =
    let first : spells (codes "(") opening ≡ false = grind (arith, nat_tests) in
    let later = accesses_same size (number ∷ closing ∷ words) (grind (arith, nat_tests)) in
    rw first (ap (λ (others : List Word). opening ∷ others) later)
accesses_same size [] none = refl
accesses_same size (one ∷ []) none = refl
accesses_same size (one ∷ other ∷ []) none = refl

operands_same : (size : Option ℕ) (words : List Word) → list_any (λ word. spells (codes "(") word) words ≡ false
    → operands_behind size words ≡ words
operands_same None words none = refl
operands_same (Some size) words none = accesses_same size words none

plain_same : (last : Word) (words : List Word) → has_return words ≡ false
    → list_any (λ word. spells (codes "(") word) words ≡ false
    → plain_words last words ≡ words
plain_same last [] ret round = refl
plain_same last (word ∷ words) ret round =
    let name : names_branch word ≡ false = grind (arith, nat_tests) in
    let operands = operands_same (bytes_named last) words (grind (arith, nat_tests)) in
    elim (cases_Bool (begins is_dot word)) [
      | inl dot ↦ rw (name, dot, operands) refl
      | inr plain ↦
          let front = plain_same word words (rw (name, plain) at ret) (grind (arith, nat_tests)) in
          rw (name, plain, front) refl
    ]

-- ---- heads

head_is : (line : List ℕ) → list_any (λ b. eqb b 58) line ≡ false
    → without_colon (label_front (tokens line)) ≡ Ok (None, tokens line)
head_is line none = let colons = no_colon_at_all line none in rw (no_label (tokens line) colons, colons) refl

-- what a line by itself says in these cases, of which the last is what stands behind its head
pub record HasSteps (isa : InstructionSet) (allowed long star bars : Bool) (line : List ℕ) (says : Says) : Type 0 where
  pub all_allowed : allowed ≡ true
  pub is_short : long ≡ false
  pub rest : star ≡ false → (bars ≡ false) × (rest_says isa (tokens line) ≡ Ok says)
  pub comment : star ≡ true → says ≡ Nothing

with_rest_is : (read : Result Says Cause) (says : Says) → with_rest None read ≡ Ok (None, says) → read ≡ Ok says
with_rest_is (Ok other) says is = grind arith
with_rest_is (Err cause) says is = absurd cc

steps_of : (isa : InstructionSet) (allowed long star bars : Bool) (line : List ℕ) (says : Says)
    → with_head isa (cond (not allowed) (Err NotAscii)
    (cond long (Err LineTooLong) (cond star (Ok (None, [])) (cond bars (Err ParallelBar)
    (Ok (None, tokens line)))))) ≡ Ok (None, says) → HasSteps isa allowed long star bars line says
unfolding rest_says
steps_of isa false long star bars line says is = absurd cc
steps_of isa true true star bars line says is = absurd cc
steps_of isa true false true bars line says is =
    record { all_allowed = refl; is_short = refl; rest = λ other. absurd cc; comment = λ here. grind arith }
steps_of isa true false false true line says is = absurd cc
steps_of isa true false false false line says is =
    record {
      all_allowed = refl;
      is_short = refl;
      rest = λ other.
          (refl, with_rest_is (rest_says isa (tokens line)) says is);
      comment = λ here. absurd cc;
    }

pub line_steps : (isa : InstructionSet) (line : List ℕ) (says : Says) → list_any (λ b. eqb b 58) line ≡ false
    → line_of isa line ≡ Ok (None, says)
    → HasSteps isa (list_all is_allowed line) (ltb MOST_LINE (length line)) (begins is_star line)
    (is_bars (tokens line))
    line says
unfolding line_of head_of
line_steps isa line says none is =
    steps_of isa (list_all is_allowed line) (ltb MOST_LINE (length line)) (begins is_star line)
    (is_bars (tokens line)) line
    says (rw (head_is line none) at is)

-- ---- bars

solid_tokens : (line : List ℕ) → tokens (from_solid line) ≡ tokens line
solid_tokens [] = refl
solid_tokens (b ∷ line) = elim (cases_Bool (is_blank b)) [
  | inl blank ↦ let text : eqb b 59 ≡ false = grind (arith, nat_tests) in rw blank (solid_tokens line
      ∙ sym (tokens_blank b line text blank))
  | inr other ↦ rw other refl
]

bars_front : (line : List ℕ) → starts_with nat_eq line (codes "||") ≡ true → is_bars (tokens line) ≡ true
bars_front [] starts = absurd cc
bars_front (b ∷ []) starts = absurd (grind (arith, nat_tests))
bars_front (b ∷ c ∷ line) starts =
    let first : b ≡ 124 = grind (arith, nat_tests) in
    let second : c ≡ 124 = grind (arith, nat_tests) in
    rw (first, second) refl

pub no_bars : (line : List ℕ) → is_bars (tokens line) ≡ false → behind_bars line ≡ None
no_bars line none = elim (cases_Bool (starts_with nat_eq (from_solid line) (codes "||"))) [
  | inl bars ↦ let found = bars_front (from_solid line) bars in absurd
      (both_ways _ none (ap is_bars (sym (solid_tokens line)) ∙ found))
  | inr other ↦ rw other refl
]

-- ---- what stands behind bars, or alone

no_colon_before : (line : List ℕ) → list_any (λ b. eqb b 58) line ≡ false → has_colon line ≡ false
no_colon_before [] none = refl
no_colon_before (b ∷ line) none = rw (take_while-cons (λ (x : ℕ). not (eqb x 59)) b line)
    (grind (arith, nat_tests, no_colon_before line))

with_unit_is : (says : Says) → HasUnit says → with_unit (Ok says) ≡ Ok says
with_unit_is Nothing unit = refl
with_unit_is (Pause n) unit = refl
with_unit_is (Does parts) unit = grind arith
with_unit_is (Jumps parts label) unit = grind arith

abbrev begins_dotless : List Word → Bool
begins_dotless [] = false
begins_dotless (word ∷ words) = not (begins is_dot word)

words_same : (isa : InstructionSet) (line : List ℕ) (beside : Bool) (words : List Word) (says : Says)
    → rest_says isa words ≡ Ok says
    → (beside ≡ true → says ≡ Nothing → ⊥)
    → (begins_dotless words ≡ true → instruction_says isa line ≡ Ok says) → words_say isa beside line words ≡ Ok says
unfolding rest_says
words_same isa line true [] says is filled instruction = absurd (filled refl (grind arith))
words_same isa line false [] says is filled instruction = grind arith
words_same isa line beside (word ∷ words) says is filled instruction = elim (cases_Bool (begins is_dot word)) [
  | inl dot ↦ let no = rw dot at is in absurd cc
  | inr plain ↦ rw plain (instruction (rw plain refl))
]

instruction_same : (isa : InstructionSet) (line : List ℕ) (says : Says) → IsPlain line
    → rest_says isa (tokens line) ≡ Ok says → HasUnit says
    → instruction_says isa line ≡ Ok says
unfolding instruction_says
instruction_same isa line says plain is unit =
    let colon = no_colon_before line plain.no_colon in
    let dots = undotted_one line plain.one_dot in
    let words = plain_same [] (tokens line) plain.no_return (no_round_at_all line plain.no_round) in
    rw (colon, dots, words, is) (with_unit_is says unit)

statement_same : (isa : InstructionSet) (line : List ℕ) (beside : Bool) (says : Says) → IsPlain line
    → rest_says isa (tokens line) ≡ Ok says
    → HasUnit says
    → (beside ≡ true → says ≡ Nothing → ⊥) → statement_says isa beside line ≡ Ok says
unfolding statement_says
statement_same isa line beside says plain is unit filled =
    words_same isa line beside (tokens line) says is filled (λ dotless. instruction_same isa line says plain is unit)

-- ---- lines

not_star : (star : Bool) → (star ≡ true → ⊥) → star ≡ false
not_star true never = absurd (never refl)
not_star false never = refl

alone_same : (isa : InstructionSet) (line : List ℕ) → IsPlain line → (says : Says) → line_of isa line ≡ Ok (None, says)
    → HasUnit says
    → line_says isa line ≡ Ok (line_said false None says)
unfolding line_says
alone_same isa line plain says is unit =
    let steps = line_steps isa line says plain.no_colon is in
    rw (steps.all_allowed, steps.is_short) (elim (cases_Bool (begins is_star line)) [
      | inl star ↦ rw (star, steps.comment star) refl
      | inr other ↦
          let rest = steps.rest other in
          rw (
            other,
            no_bars line rest.0,
            ← no_colon_no_label line plain.no_colon,
            statement_same isa line false says plain rest.1 unit (λ beside. absurd cc),
          ) refl
    ])

beside_same : (isa : InstructionSet) (line : List ℕ) → IsPlain line → (says : Says) → line_of isa line ≡ Ok (None, says)
    → HasUnit says
    → (says ≡ Nothing → ⊥)
    → length line ≤ 253 → line_says isa (codes "||" ++ line) ≡ Ok (line_said true None says)
unfolding line_says
beside_same isa line plain says is unit filled short =
    let steps = line_steps isa line says plain.no_colon is in
    let no_star : begins is_star line ≡ false = not_star (begins is_star line) (λ star. filled (steps.comment star)) in
    let rest = steps.rest no_star in
    let few : ltb MOST_LINE (length (124 ∷ 124 ∷ line)) ≡ false = grind (arith, nat_tests) in
    rw (steps.all_allowed, few, statement_same isa line true says plain rest.1 unit (λ beside. filled)) refl

pub reads_as_serial : (isa : InstructionSet) (line : List ℕ) → IsPlain line → ReadsAsSerial isa line
reads_as_serial isa line plain = record { alone = alone_same isa line plain; beside = beside_same isa line plain }
