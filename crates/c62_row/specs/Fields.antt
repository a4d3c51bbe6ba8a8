-- Words of fields of four bits, sixteen in a word: a field for each place of a resource.
use Rattle.std.specs.Prelude.{ℕ, ◌*◌, ◌/◌, ◌%◌, ◌^◌, ◌<◌, ◌≤◌, ◌==◌, List, slice_index, count_by}
use Rattle.c62_rules.specs.declared.resource.Resource.{Resource}
use Rattle.c62_rules.specs.Resource.{place_of}

-- of the fields of a word, the one at this place
abbrev pub count_at : ℕ → ℕ → ℕ
count_at word k = word / 2 ^ (4 * k) % 16

-- the field of a place in these words
abbrev pub field_at : List ℕ → ℕ → ℕ
field_at words place = count_at (slice_index words (place / 16)) (place % 16)

-- what holds of the fields of a word
abbrev pub EachField : (ℕ → Type 0) → Type 0
EachField Holds = (j : ℕ) → j < 16 → Holds j

-- and of those of three words
abbrev pub EachPlace : (ℕ → Type 0) → Type 0
EachPlace Holds = (place : ℕ) → place < 48 → Holds place

-- all fields of a word are below 8
abbrev pub IsClear : ℕ → Type 0
IsClear word = EachField (λ j. count_at word j < 8)

-- the first field of a word that is 8 or more
pub record IsFirstHigh (word j : ℕ) : Type 0 where
  pub within : j < 16
  pub high : 8 ≤ count_at word j
  pub first : (other : ℕ) → other < j → count_at word other < 8

-- how often the resource of a place is one of these
abbrev pub times_at : ℕ → List Resource → ℕ
times_at place taken = count_by (λ r. place_of r == place) taken

-- each field is below a bound
abbrev pub AreBelow : ℕ → List ℕ → Type 0
AreBelow bound words = EachPlace (λ place. field_at words place < bound)
