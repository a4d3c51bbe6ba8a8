-- Some unit takes operands exactly where some form takes them on a side.
use Rattle.std.proofs.Common.{◌≡◌, Bool, true, false, ◌&&◌, ◌||◌, List, [], ◌∷◌, refl, ap, ◌∙◌}
use Rattle.std.specs.List.{list_any}
use Rattle.c62_op.specs.declared.register.Side.{Side}
use Rattle.c62_op.specs.declared.register.Side.TheVariants.{A, B}
use Rattle.c62_op.specs.declared.register.Letter.{Letter}
use Rattle.c62_op.specs.declared.register.Letter.TheVariants.{L}
use Rattle.c62_op.specs.declared.operands.Op.{Op}
use Rattle.c62_op.specs.declared.operands.Operands.{Operands}
use Rattle.c62_op.specs.declared.form.Form.{Form}
use Rattle.c62_op.specs.Table.{forms_of}
use Rattle.c62_op.specs.declared.set.InstructionSet.{InstructionSet}
use Rattle.c62_op.specs.Takes.{holds_constants, registers_fit, same_letter, takes_by, takes_in, takes_somewhere}
use Rattle.c62_op.specs.Takes.{has_all_of}
use Rattle.c62_op.specs.Units.{all_units}

abbrev pub on_side : Bool → Bool → Side → Bool
on_side a b A = a
on_side a b B = b

by_letter : (letter : Letter) (holds a b : Bool)
    → list_any (λ unit. holds && same_letter letter unit.letter && on_side a b unit.side) all_units ≡
    (holds && (a || b))
by_letter letter false a b = refl
by_letter L true true b = refl
by_letter _ true true b = refl
by_letter L true false true = refl
by_letter _ true false true = refl
by_letter L true false false = refl
by_letter _ true false false = refl

one_form : (form : Form) (operands : Operands)
    → list_any (takes_by form operands) all_units ≡ takes_somewhere form operands
one_form form operands =
    by_letter form.letter (holds_constants form.pattern operands) (registers_fit form.pattern A operands)
    (registers_fit form.pattern B operands)

regrouped : (a b c d : Bool) → ((a || b) || (c || d)) ≡ ((a || c) || (b || d))
regrouped true b c d = refl
regrouped false true true d = refl
regrouped false true false d = refl
regrouped false false c d = refl

any_or : {X : Type 0} (f g : X → Bool) (xs : List X) → list_any (λ x. f x || g x) xs ≡ (list_any f xs || list_any g xs)
any_or f g [] = refl
any_or f g (x ∷ xs) = ap (λ (later : Bool). (f x || g x) || later) (any_or f g xs)
    ∙ regrouped (f x) (g x) (list_any f xs) (list_any g xs)

if_in : (held : Bool) (form : Form) (operands : Operands)
    → list_any (λ unit. held && takes_by form operands unit) all_units ≡ (held && takes_somewhere form operands)
if_in true form operands = one_form form operands
if_in false form operands = refl

by_forms : (held : Form → Bool) (operands : Operands) (forms : List Form)
    → list_any (λ unit. list_any (λ form. held form && takes_by form operands unit) forms) all_units ≡ list_any
    (λ form. held form && takes_somewhere form operands) forms
by_forms held operands [] = refl
by_forms held operands (form ∷ forms) =
    any_or (λ unit. held form && takes_by form operands unit)
    (λ unit. list_any (λ f. held f && takes_by f operands unit) forms) all_units
    ∙ ap (λ (first : Bool). first
    || list_any (λ unit. list_any (λ f. held f && takes_by f operands unit) forms) all_units)
    (if_in (held form) form operands)
    ∙ ap (λ (later : Bool). held form && takes_somewhere form operands || later) (by_forms held operands forms)

pub somewhere : (set : InstructionSet) (op : Op) (operands : Operands)
    → list_any (takes_in set op operands) all_units ≡ list_any
    (λ form. has_all_of set form.set && takes_somewhere form operands) (forms_of op)
somewhere set op operands = by_forms (λ form. has_all_of set form.set) operands (forms_of op)
