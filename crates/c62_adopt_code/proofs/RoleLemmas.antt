-- What lines are for of which is known what they say.
use Rattle.std.proofs.Common.{◌≡◌, ◌≤◌, ℕ, Bool, true, false, cond, not, List, [], ◌∷◌, ◌++◌, Option, Some, None}
use Rattle.std.proofs.Common.{length, refl, sym, ap, ◌∙◌, subst, Ok, Err, Result, ltb, inl, inr, arith, take}
use Rattle.std.specs.Prelude.{is_some}
use Rattle.std.specs.List.{list_all, list_any}
use Rattle.std.proofs.lemmas.Bool.{cases_Bool}
use Rattle.std.proofs.lemmas.Bool.Decides.{nat_tests}
use Rattle.std.proofs.lemmas.List.{take_all}
use Rattle.c62_token.specs.Kind.{Word}
use Rattle.c62_token.specs.Token.{begins, is_allowed, tokens}
use Rattle.c62_line.specs.declared.fault.Cause.TheVariants.{NotAscii, LineTooLong, Directive}
use Rattle.c62_line.specs.declared.limits.TheConstants.{MOST_LINE}
use Rattle.c62_line.specs.Line.{Says, Nothing, is_star, label_field}
use Rattle.c62_line.specs.Unit.{is_dot}
use Rattle.c62_adopt_line.specs.declared.fault.LineFault.{LineFault}
use Rattle.c62_adopt_line.specs.declared.fault.LineFault.TheVariants.{Read}
use Rattle.c62_adopt_line.specs.Directive.{lays_nothing}
use Rattle.c62_adopt_line.specs.Line.{Line, behind_bars, behind_colon, line_said, line_says, statement_says, with_bars}
use Rattle.c62_adopt_line.specs.Line.{with_front, with_label, words_say}
use Rattle.c62_adopt_line.specs.Plain.{undotted}
use Rattle.c62_adopt_code.specs.Statement.{behind_label, front_of, is_remark, label_of}
use Rattle.c62_adopt_code.specs.Role.{Role, Remark, Silent, Acts, role_of, statement_role, unbarred}
use Rattle.c62_op.specs.declared.set.InstructionSet.{InstructionSet}

-- ---- a line that says something and has neither bars nor a label

dot_says : (lays : Bool) (says : Says) → cond lays (Ok Nothing) (Err (Read Directive)) ≡ Ok says → (says ≡ Nothing → ⊥)
    → ⊥
dot_says true says is some = some (grind arith)
dot_says false says is some = absurd cc

words_act : (isa : InstructionSet) (line : List ℕ) (words : List Word) (says : Says)
    → words_say isa false line words ≡ Ok says
    → (says ≡ Nothing → ⊥)
    → statement_role false line words ≡ Acts
unfolding statement_role
words_act isa line [] says is some = absurd (some (grind arith))
words_act isa line (word ∷ words) says is some = elim (cases_Bool (begins is_dot word)) [
  | inl dot ↦ absurd (dot_says (lays_nothing (word ∷ words)) says (rw dot at is) some)
  | inr plain ↦ rw plain refl
]

front_says : (read : Result Says LineFault) (label : Option Word) (says : Says)
    → with_front false label read ≡ Ok (line_said false None says)
    → (label ≡ None) × (read ≡ Ok says)
front_says (Err fault) label says is = absurd cc
front_says (Ok other) label says is = grind arith

label_none : (isa : InstructionSet) (line : List ℕ) (field : Option Word) (says : Says)
    → with_label isa line field ≡ Ok (line_said false None says)
    → (field ≡ None) × (statement_says isa false line ≡ Ok says)
label_none isa line None says is = (refl, (front_says (statement_says isa false line) None says is).1)
label_none isa line (Some label) says is = let found =
    (front_says (statement_says isa false (behind_colon line)) (Some label) says is).0 in absurd cc

beside_says : (read : Result Says LineFault) (says : Says) (label : Option Word)
    → with_front true None read ≡ Ok (line_said false label says) → ⊥
beside_says (Err fault) says label is = cc
beside_says (Ok other) says label is = grind arith

bars_none : (isa : InstructionSet) (line : List ℕ) (bars : Option (List ℕ)) (says : Says)
    → with_bars isa line bars ≡ Ok (line_said false None says)
    → (bars ≡ None) × (label_field (undotted true line) ≡ None) × (statement_says isa false line ≡ Ok says)
bars_none isa line (Some rest) says is = absurd (beside_says (statement_says isa true rest) says None is)
bars_none isa line None says is = let found = label_none isa line (label_field (undotted true line)) says is in
    (refl, found.0, found.1)

-- what a line by itself says in these cases
record AreSteps (long : Bool) (rest : Result Line LineFault) (line : Line) : Type 0 where
  short : long ≡ false
  says : rest ≡ Ok line

steps_of : (allowed long star : Bool) (rest : Result Line LineFault) (line : Line) → (star ≡ false)
    → cond (not allowed) (Err (Read NotAscii))
    (cond long (Err (Read LineTooLong)) (cond star (Ok (line_said false None Nothing)) rest)) ≡ Ok line
    → AreSteps long rest line
steps_of false long star rest line other is = absurd cc
steps_of true true star rest line other is = absurd cc
steps_of true false true rest line other is = absurd cc
steps_of true false false rest line other is = record { short = refl; says = is }

line_steps : (isa : InstructionSet) (bytes : List ℕ) (line : Line) → begins is_star bytes ≡ false
    → line_says isa bytes ≡ Ok line
    → AreSteps (ltb MOST_LINE (length bytes)) (with_bars isa bytes (behind_bars bytes)) line
unfolding line_says
line_steps isa bytes line other is =
    steps_of (list_all is_allowed bytes) (ltb MOST_LINE (length bytes)) (begins is_star bytes)
    (with_bars isa bytes (behind_bars bytes)) line other is

front_whole : (bytes : List ℕ) → ltb MOST_LINE (length bytes) ≡ false → front_of bytes ≡ bytes
front_whole bytes short = take_all MOST_LINE bytes (grind (arith, nat_tests))

acts_so : (bytes : List ℕ) (label : Option Word) → label ≡ None → statement_role false bytes (tokens bytes) ≡ Acts
    → statement_role (is_some label) (behind_label label bytes) (tokens (behind_label label bytes)) ≡ Acts
acts_so bytes label none is = rw none is

pub acts_by : (isa : InstructionSet) (bytes : List ℕ) (says : Says) → is_remark bytes ≡ false
    → begins is_star bytes ≡ false
    → line_says isa bytes ≡ Ok (line_said false None says) → (says ≡ Nothing → ⊥) → role_of bytes ≡ Acts
unfolding role_of statement_says
acts_by isa bytes says plain other is some =
    let steps = line_steps isa bytes (line_said false None says) other is in
    let parts = bars_none isa bytes (behind_bars bytes) says steps.says in
    let label : label_of (front_of bytes) ≡ None = ap label_of (front_whole bytes steps.short) ∙ parts.1 in
    rw (plain, parts.0) (acts_so bytes (label_of (front_of bytes)) label
    (words_act isa bytes (tokens bytes) says parts.2 some))

-- ---- a line that is a label

label_some : (isa : InstructionSet) (line : List ℕ) (field : Option Word) (label : Word) (says : Says)
    → with_label isa line field ≡ Ok (line_said false (Some label) says)
    → field ≡ Some label
label_some isa line None label says is = absurd (no_label (statement_says isa false line) is)
  where
    no_label : (read : Result Says LineFault) → with_front false None read ≡ Ok (line_said false (Some label) says) → ⊥
    no_label (Err fault) is = cc
    no_label (Ok other) is = grind arith
label_some isa line (Some other) label says is = so (statement_says isa false (behind_colon line)) is
  where
    so : (read : Result Says LineFault) → with_front false (Some other) read ≡ Ok (line_said false (Some label) says)
        → Some other ≡ Some label
    so (Err fault) is = absurd cc
    so (Ok said) is = grind arith

bars_label : (isa : InstructionSet) (line : List ℕ) (bars : Option (List ℕ)) (label : Word) (says : Says)
    → with_bars isa line bars ≡ Ok (line_said false (Some label) says)
    → (bars ≡ None) × (label_field (undotted true line) ≡ Some label)
bars_label isa line (Some rest) label says is = absurd (beside_says (statement_says isa true rest) says (Some label) is)
bars_label isa line None label says is = (refl, label_some isa line (label_field (undotted true line)) label says is)

silent_so : (bytes : List ℕ) (found : Option Word) (label : Word) → found ≡ Some label → behind_colon bytes ≡ []
    → statement_role (is_some found) (behind_label found bytes) (tokens (behind_label found bytes)) ≡ Silent
unfolding statement_role
silent_so bytes found label is empty = rw (is, empty) refl

pub silent_by : (isa : InstructionSet) (bytes : List ℕ) (label : Word) → is_remark bytes ≡ false
    → begins is_star bytes ≡ false
    → line_says isa bytes ≡ Ok (line_said false (Some label) Nothing) → behind_colon bytes ≡ [] → role_of bytes ≡ Silent
unfolding role_of
silent_by isa bytes label plain other is empty =
    let steps = line_steps isa bytes (line_said false (Some label) Nothing) other is in
    let parts = bars_label isa bytes (behind_bars bytes) label Nothing steps.says in
    let found : label_of (front_of bytes) ≡ Some label = ap label_of (front_whole bytes steps.short) ∙ parts.1 in
    rw (plain, parts.0) (silent_so bytes (label_of (front_of bytes)) label found empty)
