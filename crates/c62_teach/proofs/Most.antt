-- What `lint` wants is one fault at least.
use Rattle.std.proofs.Common.{◌≡◌, ℕ, zero, suc, ◌≤◌, Bool, true, false, List, [], ◌∷◌, Option, Some, None, refl, arith}
use Rattle.std.proofs.lemmas.Bool.Decides.{nat_tests}
use Rattle.std.specs.Prelude.{ℤ, pos, negsuc, IfSome, option_map, option_and_then, codes}
use Rattle.std.specs.Str.{bytes_eq}
use Rattle.c62_token.specs.Number.{number_of}
use Rattle.c62_teach.specs.declared.words.Kind.{Kind}
use Rattle.c62_teach.specs.declared.words.Linting.{Linting}
use Rattle.c62_teach.specs.Words.{Text, as_json, behind_first, changed, default, kind_of, linting_by, most_by}
use Rattle.c62_teach.specs.Words.{most_of, with_kind, with_most}

most_some : (z : ℤ) → IfSome (most_by z) (λ most. 1 ≤ most)
most_some (pos zero) = tt
most_some (pos (suc n)) = grind (arith, nat_tests)
most_some (negsuc n) = tt

most_of_some : (o : Option ℤ) → IfSome (option_and_then most_by o) (λ most. 1 ≤ most)
most_of_some None = tt
most_of_some (Some z) = most_some z

most_changed : (linting : Linting) (o : Option ℕ) → IfSome o (λ most. 1 ≤ most)
    → IfSome (option_map (with_most linting) o) (λ so. 1 ≤ so.most)
most_changed linting None some = tt
most_changed linting (Some most) some = some

kind_changed : (linting : Linting) (o : Option Kind) → 1 ≤ linting.most
    → IfSome (option_map (with_kind linting) o) (λ so. 1 ≤ so.most)
kind_changed linting None some = tt
kind_changed linting (Some kind) some = some

changed_some : (linting : Linting) (option value : Text) → 1 ≤ linting.most
    → IfSome (changed linting option value) (λ so. 1 ≤ so.most)
changed_some linting option value some = go (bytes_eq option (codes "--most")) refl (bytes_eq option (codes "--as"))
    refl
  where
    go : (most : Bool) → bytes_eq option (codes "--most") ≡ most → (kind : Bool) → bytes_eq option (codes "--as") ≡ kind
        → IfSome (changed linting option value) (λ so. 1 ≤ so.most)
    go true e kind is = rw e (most_changed linting (most_of value) (most_of_some (number_of value)))
    go false e true is = rw (e, is) (kind_changed linting (kind_of value) some)
    go false e false is = rw (e, is) tt

behind_some : (linting : Linting) (words : List Text) → 1 ≤ linting.most
    → IfSome (behind_first linting words) (λ so. 1 ≤ so.most)
behind_some linting [] some = some
behind_some linting (option ∷ []) some = tt
behind_some linting (option ∷ value ∷ []) some = changed_some linting option value some
behind_some linting (option ∷ value ∷ word ∷ words) some = tt

by_some : (words : List Text) → IfSome (linting_by words) (λ so. 1 ≤ so.most)
unfolding linting_by
by_some [] = omega arith
by_some (option ∷ []) = tt
by_some (option ∷ value ∷ words) = go (changed default option value) (changed_some default option value (omega arith))
  where
    go : (o : Option Linting) → IfSome o (λ so. 1 ≤ so.most)
        → IfSome (option_and_then (λ linting. behind_first linting words) o) (λ so. 1 ≤ so.most)
    go None none = tt
    go (Some so) some = behind_some so words some

json_some : (json : Bool) (o : Option Linting) → IfSome o (λ so. 1 ≤ so.most)
    → IfSome (option_map (as_json json) o) (λ so. 1 ≤ so.most)
json_some json None some = tt
json_some json (Some so) some = some

pub by_most : (found by : Option Linting) (json : Bool) (words : List Text) → by ≡ linting_by words
    → found ≡ option_map (as_json json) by → IfSome found (λ so. 1 ≤ so.most)
by_most found by json words is so = rw (so, is) (json_some json (linting_by words) (by_some words))
