-- Labels in tables.
use Rattle.std.proofs.Common.{arith, ◌≡◌, ℕ, Bool, true, false, List, [], ◌∷◌, ◌++◌, length, Option, Some, None}
use Rattle.std.proofs.Common.{is_some, refl, sym, ap, ◌∙◌}
use Rattle.std.specs.List.{position, position_or_len}
use Rattle.std.specs.Map.{keys_of, lookup}
use Rattle.std.specs.Str.{bytes_eq}
use Rattle.std.specs.Prelude.{not}
use Rattle.std.proofs.lemmas.Bool.Decides.{nat_tests}
use Rattle.std.proofs.lemmas.List.Sums.{prefix_len-le-length}
use Rattle.indexmap.specs.IndexMap.{insert_entry}
use Rattle.indexmap.proofs.MapLemmas.{absent_from_lookup, insert_entry-absent, or_len-absent, some_index}

pub none_if : {X : Type 0} (o : Option X) → is_some o ≡ false → o ≡ None
none_if None e = refl
none_if (Some x) e = absurd cc

-- the first place that passes, or the end
pub place_is : {X : Type 0} (p : X → Bool) (xs : List X) (i : ℕ) → position p xs ≡ Some i → position_or_len p xs ≡ i
place_is p xs i is = grind (arith, nat_tests, is)

pub no_place_is : {X : Type 0} (p : X → Bool) (xs : List X) → position p xs ≡ None → position_or_len p xs ≡ length xs
no_place_is p xs none = grind (arith, nat_tests, none, prefix_len-le-length (λ x. not (p x)) xs)

module _ (name : List ℕ) (entries : List (List ℕ × ℕ)) where
  -- a new label goes last
  pub inserted : (value : ℕ) → is_some (lookup (bytes_eq name) entries) ≡ false
      → insert_entry bytes_eq entries name value ≡ entries ++ (name, value) ∷ []
  inserted value new =
      insert_entry-absent bytes_eq name value entries
      (absent_from_lookup (bytes_eq name) entries (none_if (lookup (bytes_eq name) entries) new))

  -- one that is there has its place
  pub place_found : (i : ℕ) → position (bytes_eq name) (keys_of entries) ≡ Some i
      → position_or_len (bytes_eq name) (keys_of entries) ≡ i
  place_found i is = place_is (bytes_eq name) (keys_of entries) i is

  pub is_there : (i : ℕ) → position (bytes_eq name) (keys_of entries) ≡ Some i
      → is_some (lookup (bytes_eq name) entries) ≡ true
  is_there i is = sym (some_index (bytes_eq name) entries) ∙ ap is_some is

  -- and one that isn't gets the next
  pub is_new : position (bytes_eq name) (keys_of entries) ≡ None → is_some (lookup (bytes_eq name) entries) ≡ false
  is_new none = sym (some_index (bytes_eq name) entries) ∙ ap is_some none

  pub place_next : is_some (lookup (bytes_eq name) entries) ≡ false
      → position_or_len (bytes_eq name) (keys_of entries) ≡ length entries
  place_next new =
      or_len-absent (bytes_eq name) entries
      (absent_from_lookup (bytes_eq name) entries (none_if (lookup (bytes_eq name) entries) new))
