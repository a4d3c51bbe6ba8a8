-- What stands in a label field is a label, and a line without a colon has none there.
use Rattle.c62_adopt_line.proofs.Common.{◌≡◌, ℕ, true, false, Bool, eqb, ◌||◌, ◌∙◌, refl, List, [], ◌∷◌, Option, Some}
use Rattle.c62_adopt_line.proofs.Common.{None, sym, arith, nat_tests, Word}
use Rattle.std.specs.Prelude.{IfSome, IsTrue}
use Rattle.std.specs.Borrow.{Bor}
use Rattle.std.specs.Option.{option_copied}
use Rattle.c62_token.specs.Number.{is_label}
use Rattle.c62_token.specs.Token.{tokens}
use Rattle.std.specs.List.{list_any}
use Rattle.c62_line.specs.Line.{label_field, label_front}
use Rattle.c62_line.proofs.HeadLemmas.{plain_field}
use Rattle.c62_adopt_line.specs.Plain.{undotted}

front_is_label : (words : List Word) (label : Word) → (label_front words).0 ≡ Some label → is_label label ≡ true
unfolding label_front
front_is_label (name ∷ colon ∷ words) label is = grind (arith, nat_tests)
front_is_label (name ∷ []) label is = absurd cc
front_is_label [] label is = absurd cc

some_label : (words : List Word) (found : Option Word) → (label_front words).0 ≡ found
    → IfSome found (λ label. IsTrue (is_label label))
some_label words None is = tt
some_label words (Some label) is = front_is_label words label is

-- the label in a label field, where there is one
pub field_has_label : (line : List ℕ) → IfSome (label_field line) (λ label. IsTrue (is_label label))
unfolding label_field
field_has_label line = some_label (tokens line) (label_front (tokens line)).0 refl

pub field_is_label : (line : List ℕ) (found : Option (Bor (List ℕ))) → option_copied found ≡ label_field line
    → IfSome found (λ word. IsTrue (is_label word.now))
unfolding label_field
field_is_label line None is = tt
field_is_label line (Some word) is = front_is_label (tokens line) word.now (sym is)

colons_stay : (behind : Bool) (line : List ℕ)
    → list_any (λ b. eqb b 58) (undotted behind line) ≡ list_any (λ b. eqb b 58) line
colons_stay behind [] = refl
colons_stay behind (b ∷ line) = grind (arith, nat_tests, colons_stay (eqb b 46 || behind) line)

pub no_colon_no_label : (line : List ℕ) → list_any (λ b. eqb b 58) line ≡ false
    → None ≡ label_field (undotted true line)
no_colon_no_label line none = sym (plain_field (undotted true line) (colons_stay true line ∙ none))
