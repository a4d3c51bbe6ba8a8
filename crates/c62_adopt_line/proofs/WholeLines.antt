-- What a line says is whole.
use Rattle.c62_adopt_line.proofs.Common.{◌≡◌, ℕ, true, false, Bool, cond, not, ◌&&◌, List, [], ◌∷◌, Option, Some, None}
use Rattle.c62_adopt_line.proofs.Common.{refl, arith, nat_tests, cases_Bool, inl, inr, Word}
use Rattle.std.proofs.Common.{Ok, Err, Result, length, ltb, subst}
use Rattle.std.specs.List.{list_all}
use Rattle.std.specs.Prelude.{is_none, is_some, IfSome, IsTrue}
use Rattle.c62_op.specs.declared.register.Cond.{Cond as Condition}
use Rattle.c62_token.specs.Kind.{kinds_in}
use Rattle.c62_token.specs.Number.{is_label}
use Rattle.c62_token.specs.Token.{begins, is_allowed, tokens}
use Rattle.c62_token.specs.declared.kind.Kind.{Kind}
use Rattle.c62_line.specs.declared.fault.Cause.{Cause}
use Rattle.c62_line.specs.Line.{Says, Nothing, Pause, Does, Jumps, behind_unit, instruction_of, is_star, jumps_or_does}
use Rattle.c62_line.specs.Line.{label_alone, label_field, pause_of, rest_says, target_of}
use Rattle.c62_line.specs.Unit.{is_dot}
use Rattle.c62_line.specs.declared.fault.Cause.TheVariants.{BadLabel, Directive, NotAscii, LineTooLong}
use Rattle.c62_line.proofs.SaysLemmas.{IsProper, proper}
use Rattle.c62_adopt_line.specs.declared.fault.LineFault.{LineFault}
use Rattle.c62_adopt_line.specs.declared.fault.LineFault.TheVariants.{Read}
use Rattle.c62_adopt_line.specs.Directive.{lays_nothing}
use Rattle.c62_adopt_line.specs.Plain.{plain_words, undotted}
use Rattle.c62_adopt_line.specs.Line.{Line, behind_bars, behind_colon, has_colon, instruction_says, lacks_unit}
use Rattle.c62_adopt_line.specs.Line.{line_said, line_says}
use Rattle.c62_adopt_line.specs.Line.{statement_says, with_bars, with_front, with_label, with_unit, words_say}
use Rattle.c62_adopt_line.specs.Laws.{HasTarget, HasUnit, IsOfSet, IsWhole, names_block}
use Rattle.c62_line.proofs.SaysLemmas.{AreTaken, said_taken}
use Rattle.c62_adopt_line.proofs.Labels.{field_has_label}
use Rattle.c62_line.specs.declared.limits.TheConstants.{MOST_LINE}
use Rattle.c62_op.specs.declared.set.InstructionSet.{InstructionSet}

some_unit : {X : Type 0} (unit : Option X) → is_none unit ≡ false → is_some unit ≡ true
some_unit None none = absurd cc
some_unit (Some unit) none = refl

-- ---- what a branch goes to

abbrev goes_to_label : Says → Bool
goes_to_label (Jumps parts label) = is_label label
goes_to_label _ = true

abbrev OkLabel : Result Says Cause → Type 0
OkLabel (Ok says) = goes_to_label says ≡ true
OkLabel (Err cause) = Unit {0}

alone_is_label : (words : List Word) (label : Word) → label_alone words ≡ Some label → is_label label ≡ true
alone_is_label [] label is = absurd cc
alone_is_label (word ∷ []) label is = grind (arith, nat_tests)
alone_is_label (word ∷ other ∷ words) label is = absurd cc

target_is_label : (mnemonic : _) (words : List Word) (label : Word) → target_of mnemonic words ≡ Some label
    → is_label label ≡ true
target_is_label mnemonic words label is = grind (arith, nat_tests, alone_is_label)

aimed_target : (isa : InstructionSet) (aim : Option Word) (mnemonic : _) (condition : Option Condition) (written : _)
    (words : List Word)
    → ((label : Word) → aim ≡ Some label → is_label label ≡ true)
    → OkLabel (jumps_or_does isa aim mnemonic condition written words)
aimed_target isa (Some label) mnemonic condition written words aims = let named = aims label refl in grind arith
aimed_target isa None mnemonic condition written words aims = grind arith

pause_target : (condition : Option Condition) (kinds : List Kind) → OkLabel (pause_of condition kinds)
unfolding pause_of
pause_target condition kinds = grind arith

unit_target : (isa : InstructionSet) (mnemonic : _) (condition : Option Condition) (written : _) (words : List Word)
    → OkLabel (behind_unit isa mnemonic condition written words)
unfolding behind_unit
unit_target isa mnemonic condition written words =
    let aimed = aimed_target isa (target_of mnemonic words) mnemonic condition written words
    (target_is_label mnemonic words) in
    let paused = pause_target condition (kinds_in isa words) in
    grind arith

rest_label : (isa : InstructionSet) (words : List Word) (says : Says) → rest_says isa words ≡ Ok says
    → goes_to_label says ≡ true
unfolding rest_says instruction_of
rest_label isa words says is = grind (arith, unit_target isa)

abbrev has_target : Says → Bool
has_target (Does parts) = not (names_block parts.operands)
has_target (Jumps parts label) = is_label label
has_target _ = true

target_said : InstructionSet → (says : Says) → goes_to_label says ≡ true → IsProper says → has_target says ≡ true
target_said isa Nothing label proper = refl
target_said isa (Pause n) label proper = refl
target_said isa (Does parts) label proper = grind (arith, nat_tests)
target_said isa (Jumps parts target) label proper = label

rest_target : (isa : InstructionSet) (words : List Word) (says : Says) → rest_says isa words ≡ Ok says
    → has_target says ≡ true
rest_target isa words says is = target_said isa says (rest_label isa words says is) (proper isa words says is)

-- ---- a statement

abbrev is_whole : Says → Bool
is_whole says = not (lacks_unit says) && has_target says

whole_said : (says : Says) → is_whole says ≡ true → HasUnit says × HasTarget says
whole_said Nothing whole = (tt, tt)
whole_said (Pause n) whole = (tt, tt)
whole_said (Does parts) whole = (some_unit parts.unit (grind (arith, nat_tests)), grind (arith, nat_tests))
whole_said (Jumps parts label) whole = (some_unit parts.unit (grind (arith, nat_tests)), grind (arith, nat_tests))

-- what is said is whole, and an instruction of the set
abbrev Stands : InstructionSet → Says → Type 0
Stands isa says = (is_whole says ≡ true) × IsOfSet isa says

unit_whole : (isa : InstructionSet) (read : Result Says Cause) (says : Says)
    → ((other : Says) → read ≡ Ok other → (has_target other ≡ true) × IsOfSet isa other)
    → with_unit read ≡ Ok says → Stands isa says
unit_whole isa (Err cause) says target is = absurd cc
unit_whole isa (Ok read) says target is =
    let both = target read refl in
    let aims = both.0 in
    let same : read ≡ says = grind arith in
    (grind (arith, nat_tests), subst (IsOfSet isa) same both.1)

nothing_stands : (isa : InstructionSet) (says : Says) → Nothing ≡ says → Stands isa says
nothing_stands isa says same = subst (Stands isa) same (refl, tt)

no_fault : (fault : LineFault) (says : Says) → Err fault ≡ Ok says → ⊥
no_fault fault says is = cc

of_set_by : (isa : InstructionSet) (says : Says) → AreTaken isa says → IsOfSet isa says
of_set_by isa Nothing taken = tt
of_set_by isa (Pause n) taken = tt
of_set_by isa (Does parts) taken = taken
of_set_by isa (Jumps parts label) taken = taken

instruction_whole : (isa : InstructionSet) (bytes : List ℕ) (says : Says) → instruction_says isa bytes ≡ Ok says
    → Stands isa says
unfolding instruction_says
instruction_whole isa bytes says is =
    let words = plain_words [] (tokens (undotted false bytes)) in
    elim (cases_Bool (has_colon bytes)) [
      | inl colon ↦ absurd (no_fault (Read BadLabel) says (rw colon at is))
      | inr none ↦ unit_whole isa (rest_says isa words) says
          (λ other e. (rest_target isa words other e, of_set_by isa other (said_taken isa words other e)))
          (rw none at is)
    ]

directive_whole : (isa : InstructionSet) (beside lays : Bool) (says : Says)
    → cond (not beside && lays) (Ok Nothing) (Err (Read Directive)) ≡ Ok says
    → Stands isa says
directive_whole isa beside lays says is = nothing_stands isa says (grind (arith, nat_tests))

words_whole : (isa : InstructionSet) (beside : Bool) (bytes : List ℕ) (words : List Word) (says : Says)
    → words_say isa beside bytes words ≡ Ok says → Stands isa says
words_whole isa beside bytes [] says is = nothing_stands isa says (grind (arith, nat_tests))
words_whole isa beside bytes (word ∷ words) says is = elim (cases_Bool (begins is_dot word)) [
  | inl dot ↦ directive_whole isa beside (lays_nothing (word ∷ words)) says (rw dot at is)
  | inr plain ↦ instruction_whole isa bytes says (rw plain at is)
]

statement_whole : (isa : InstructionSet) (beside : Bool) (bytes : List ℕ) (says : Says)
    → statement_says isa beside bytes ≡ Ok says
    → Stands isa says
unfolding statement_says
statement_whole isa beside bytes says is = words_whole isa beside bytes (tokens bytes) says is

front_whole : (isa : InstructionSet) (beside : Bool) (label : Option Word) (read : Result Says LineFault) (line : Line)
    → (beside ≡ true → label ≡ None)
    → IfSome label (λ word. IsTrue (is_label word))
    → ((says : Says) → read ≡ Ok says → Stands isa says) → with_front beside label read ≡ Ok line → IsWhole isa line
front_whole isa beside label (Err fault) line alone labelled whole is = absurd cc
front_whole isa beside label (Ok says) line alone labelled whole is =
    let same : line_said beside label says ≡ line = grind arith in
    let stands = whole says refl in
    let both = whole_said says stands.0 in
    subst (IsWhole isa) same
    (record { unit = both.0; target = both.1; of_set = stands.1; label = labelled; beside = alone })

label_whole : (isa : InstructionSet) (bytes : List ℕ) (label : Option Word) (line : Line)
    → IfSome label (λ word. IsTrue (is_label word))
    → with_label isa bytes label ≡ Ok line → IsWhole isa line
label_whole isa bytes (Some label) line labelled is =
    front_whole isa false (Some label) (statement_says isa false (behind_colon bytes)) line
    (λ beside. absurd cc) labelled
    (statement_whole isa false (behind_colon bytes)) is
label_whole isa bytes None line labelled is =
    front_whole isa false None (statement_says isa false bytes) line (λ beside. refl) tt
    (statement_whole isa false bytes) is

bars_whole : (isa : InstructionSet) (bytes : List ℕ) (behind : Option (List ℕ)) (line : Line)
    → with_bars isa bytes behind ≡ Ok line → IsWhole isa line
bars_whole isa bytes (Some rest) line is =
    front_whole isa true None (statement_says isa true rest) line (λ beside. refl) tt
    (statement_whole isa true rest) is
bars_whole isa bytes None line is = label_whole isa bytes (label_field (undotted true bytes)) line
    (field_has_label (undotted true bytes)) is

steps_whole : (isa : InstructionSet) (allowed long star : Bool) (rest : Result Line LineFault) (line : Line)
    → ((other : Line) → rest ≡ Ok other → IsWhole isa other)
    → cond (not allowed) (Err (Read NotAscii))
    (cond long (Err (Read LineTooLong)) (cond star (Ok (line_said false None Nothing)) rest)) ≡ Ok line
    → IsWhole isa line
steps_whole isa false long star rest line whole is = absurd cc
steps_whole isa true true star rest line whole is = absurd cc
steps_whole isa true false true rest line whole is =
    let same : line_said false None Nothing ≡ line = grind arith in
    subst (IsWhole isa) same (record { unit = tt; target = tt; of_set = tt; label = tt; beside = λ beside. refl })
steps_whole isa true false false rest line whole is = whole line is

pub line_whole : (isa : InstructionSet) (bytes : List ℕ) (line : Line) → line_says isa bytes ≡ Ok line
    → IsWhole isa line
unfolding line_says
line_whole isa bytes line is =
    steps_whole isa (list_all is_allowed bytes) (ltb MOST_LINE (length bytes)) (begins is_star bytes)
    (with_bars isa bytes (behind_bars bytes)) line
    (bars_whole isa bytes (behind_bars bytes)) is
