-- A NOP takes a cycle at least.
use Rattle.std.proofs.Common.{◌≡◌, ℕ, Bool, true, false, cond, leb, ltb, ◌&&◌, not, List, [], ◌∷◌, length, Option, Some}
use Rattle.std.proofs.Common.{None, Result, Ok, Err, refl, arith, pos, inl, inr, subst}
use Rattle.std.proofs.lemmas.Bool.{cases_Bool, cond_both}
use Rattle.std.proofs.lemmas.Bool.Decides.{nat_tests}
use Rattle.std.specs.List.{list_all}
use Rattle.c62_op.specs.declared.register.Cond.{Cond as Condition}
use Rattle.c62_token.specs.Kind.{Word, kinds_in}
use Rattle.c62_token.specs.Token.{begins, is_allowed, tokens}
use Rattle.c62_token.specs.declared.kind.Kind.{Kind}
use Rattle.c62_token.specs.declared.kind.Kind.TheVariants.{Number}
use Rattle.c62_line.specs.declared.fault.Cause.{Cause}
use Rattle.c62_line.specs.declared.fault.Cause.TheVariants.{BadLabel, BadOperand, Directive, NotAscii, LineTooLong}
use Rattle.c62_line.specs.declared.limits.TheConstants.{MOST_LINE}
use Rattle.c62_line.specs.Line.{Says, Nothing, Pause, behind_unit, cycles_of, instruction_of, is_star, jumps_or_does}
use Rattle.c62_line.specs.Line.{label_field, pause_of, rest_says, target_of}
use Rattle.c62_line.specs.Unit.{is_dot}
use Rattle.c62_adopt_line.specs.declared.fault.LineFault.{LineFault}
use Rattle.c62_adopt_line.specs.declared.fault.LineFault.TheVariants.{Read}
use Rattle.c62_adopt_line.specs.Directive.{lays_nothing}
use Rattle.c62_adopt_line.specs.Plain.{plain_words, undotted}
use Rattle.c62_adopt_line.specs.Line.{Line, behind_bars, behind_colon, has_colon, instruction_says, line_said}
use Rattle.c62_adopt_line.specs.Line.{line_says}
use Rattle.c62_adopt_line.specs.Line.{statement_says, with_bars, with_front, with_label, with_unit, words_say}
use Rattle.c62_op.specs.declared.set.InstructionSet.{InstructionSet}

abbrev pub lasts : Says → Bool
lasts (Pause n) = leb 1 n
lasts _ = true

abbrev OkLasts : Result Says Cause → Type 0
OkLasts (Ok says) = lasts says ≡ true
OkLasts (Err cause) = Unit {0}

cycles_last : (kind : Kind) → OkLasts (cycles_of kind)
cycles_last (Number (pos n)) = cond_both (leb 1 n && leb n 9) (Ok (Pause n)) (Err BadOperand) OkLasts
    (λ is. grind (arith, nat_tests)) (λ _. tt)
cycles_last _ = tt

pause_lasts : (condition : Option Condition) (kinds : List Kind) → OkLasts (pause_of condition kinds)
unfolding pause_of
pause_lasts None [] = refl
pause_lasts None (kind ∷ []) = cycles_last kind
pause_lasts None (kind ∷ next ∷ kinds) = tt
pause_lasts (Some condition) kinds = tt

does_last : (isa : InstructionSet) (aim : Option Word) (mnemonic : _) (condition : Option Condition) (written : _)
    (words : List Word)
    → OkLasts (jumps_or_does isa aim mnemonic condition written words)
does_last isa (Some label) mnemonic condition written words = grind arith
does_last isa None mnemonic condition written words = grind arith

unit_lasts : (isa : InstructionSet) (mnemonic : _) (condition : Option Condition) (written : _) (words : List Word)
    → OkLasts (behind_unit isa mnemonic condition written words)
unfolding behind_unit
unit_lasts isa mnemonic condition written words =
    let does = does_last isa (target_of mnemonic words) mnemonic condition written words in
    let paused = pause_lasts condition (kinds_in isa words) in
    grind arith

rest_lasts : (isa : InstructionSet) (words : List Word) (says : Says) → rest_says isa words ≡ Ok says
    → lasts says ≡ true
unfolding rest_says instruction_of
rest_lasts isa words says is = grind (arith, unit_lasts isa)

-- ---- a line

no_fault : (fault : LineFault) (says : Says) → Err fault ≡ Ok says → ⊥
no_fault fault says is = cc

unit_kept : (read : Result Says Cause) (says : Says) → ((other : Says) → read ≡ Ok other → lasts other ≡ true)
    → with_unit read ≡ Ok says → lasts says ≡ true
unit_kept (Err cause) says target is = absurd cc
unit_kept (Ok read) says target is = let aims = target read refl in grind (arith, nat_tests)

instruction_lasts : (isa : InstructionSet) (bytes : List ℕ) (says : Says) → instruction_says isa bytes ≡ Ok says
    → lasts says ≡ true
unfolding instruction_says
instruction_lasts isa bytes says is =
    let words = plain_words [] (tokens (undotted false bytes)) in
    elim (cases_Bool (has_colon bytes)) [
      | inl colon ↦ absurd (no_fault (Read BadLabel) says (rw colon at is))
      | inr none ↦ unit_kept (rest_says isa words) says (rest_lasts isa words) (rw none at is)
    ]

directive_lasts : (beside lays : Bool) (says : Says)
    → cond (not beside && lays) (Ok Nothing) (Err (Read Directive)) ≡ Ok says → lasts says ≡ true
directive_lasts beside lays says is = grind (arith, nat_tests)

words_last : (isa : InstructionSet) (beside : Bool) (bytes : List ℕ) (words : List Word) (says : Says)
    → words_say isa beside bytes words ≡ Ok says
    → lasts says ≡ true
words_last isa beside bytes [] says is = grind (arith, nat_tests)
words_last isa beside bytes (word ∷ words) says is = elim (cases_Bool (begins is_dot word)) [
  | inl dot ↦ directive_lasts beside (lays_nothing (word ∷ words)) says (rw dot at is)
  | inr plain ↦ instruction_lasts isa bytes says (rw plain at is)
]

statement_lasts : (isa : InstructionSet) (beside : Bool) (bytes : List ℕ) (says : Says)
    → statement_says isa beside bytes ≡ Ok says
    → lasts says ≡ true
unfolding statement_says
statement_lasts isa beside bytes says is = words_last isa beside bytes (tokens bytes) says is

front_lasts : (beside : Bool) (label : Option Word) (read : Result Says LineFault) (line : Line)
    → ((says : Says) → read ≡ Ok says → lasts says ≡ true)
    → with_front beside label read ≡ Ok line → lasts line.says ≡ true
front_lasts beside label (Err fault) line whole is = absurd cc
front_lasts beside label (Ok says) line whole is =
    let same : line_said beside label says ≡ line = grind arith in
    subst (λ (other : Line). lasts other.says ≡ true) same (whole says refl)

label_lasts : (isa : InstructionSet) (bytes : List ℕ) (label : Option Word) (line : Line)
    → with_label isa bytes label ≡ Ok line
    → lasts line.says ≡ true
label_lasts isa bytes (Some label) line is =
    front_lasts false (Some label) (statement_says isa false (behind_colon bytes)) line
    (statement_lasts isa false (behind_colon bytes)) is
label_lasts isa bytes None line is =
    front_lasts false None (statement_says isa false bytes) line (statement_lasts isa false bytes)
    is

bars_last : (isa : InstructionSet) (bytes : List ℕ) (behind : Option (List ℕ)) (line : Line)
    → with_bars isa bytes behind ≡ Ok line
    → lasts line.says ≡ true
bars_last isa bytes (Some rest) line is =
    front_lasts true None (statement_says isa true rest) line (statement_lasts isa true rest)
    is
bars_last isa bytes None line is = label_lasts isa bytes (label_field (undotted true bytes)) line is

steps_last : (allowed long star : Bool) (rest : Result Line LineFault) (line : Line)
    → ((other : Line) → rest ≡ Ok other → lasts other.says ≡ true)
    → cond (not allowed) (Err (Read NotAscii))
    (cond long (Err (Read LineTooLong)) (cond star (Ok (line_said false None Nothing)) rest)) ≡ Ok line
    → lasts line.says ≡ true
steps_last false long star rest line whole is = absurd cc
steps_last true true star rest line whole is = absurd cc
steps_last true false true rest line whole is =
    let same : line_said false None Nothing ≡ line = grind arith in
    subst (λ (other : Line). lasts other.says ≡ true) same refl
steps_last true false false rest line whole is = whole line is

pub line_lasts : (isa : InstructionSet) (bytes : List ℕ) (line : Line) → line_says isa bytes ≡ Ok line
    → lasts line.says ≡ true
unfolding line_says
line_lasts isa bytes line is =
    steps_last (list_all is_allowed bytes) (ltb MOST_LINE (length bytes)) (begins is_star bytes)
    (with_bars isa bytes (behind_bars bytes)) line
    (bars_last isa bytes (behind_bars bytes)) is
