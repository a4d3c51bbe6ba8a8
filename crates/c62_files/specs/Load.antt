-- Files whose bytes are put into memory (docs/COMMANDS.md, "Files").
use Rattle.std.specs.Prelude.{◌≡◌, ◌≢◌, ◌⊎◌, ℕ, ◌+◌, ◌-◌, ◌<◌, ℤ, pos, int_le, unsigned_abs, nat_le, ◌&&◌, Bool, true, false, List, [], ◌∷◌, ◌++◌, length, slice_index_or, take, codes, decimal, Option, Some, None, IfSome, option_and_then, if◌then◌else◌}
use Rattle.std.specs.List.{flat_map}
use Rattle.c62_token.specs.Number.{number_of}
use Rattle.c62_files.specs.Words.{Text}
use Rattle.c62_files.specs.declared.load.Misfit.{Misfit}
use Rattle.c62_files.specs.declared.load.Misfit.TheVariants.{Bad, PastEnd}

-- numbers, each behind a comma
abbrev pub numbers_behind : List ℕ → List ℕ
numbers_behind bytes = flat_map (λ byte. codes "," ++ decimal byte) bytes

-- `@ADDRESS:b=1,2,3`
abbrev pub load_word : Text → ℕ → List ℕ → Text
load_word address first rest = codes "@" ++ address ++ codes ":b=" ++ decimal first ++ numbers_behind rest

-- the setting that puts these bytes into memory from an address on; no bytes need none
abbrev pub load_words : Text → List ℕ → List Text
load_words address [] = []
load_words address (first ∷ rest) = load_word address first rest ∷ []

abbrev pub NoEquals : Text → Type 0
NoEquals text = (i : ℕ) → i < length text → slice_index_or text i 0 ≢ 61

-- the first `=` of a word parts an address from the name of a file
abbrev pub IsPlaced : (word address name : Text) → Type 0
IsPlaced word address name = (word ≡ address ++ 61 ∷ name) × NoEquals address

-- no address stands before a `=`
abbrev pub IsNowhere : Text → Type 0
IsNowhere word = NoEquals word

-- a number that isn't below 0
abbrev pub natural : ℤ → Option ℕ
natural z = if int_le (pos 0) z then Some (unsigned_abs z) else None

abbrev pub address_of : Text → Option ℕ
address_of text = option_and_then natural (number_of text)

-- so many bytes from an address on lie in memory that begins at a base
abbrev pub fits : (base address count : ℕ) → Bool
fits base address count = nat_le base address && nat_le (address - base + count) 65536

-- `ADDRESS=NAME`, where the file of this name holds these bytes, or more than memory has and these are one more
pub record IsLoad (holds : Text → Option (List ℕ)) (word place : Text) (address : ℕ) (bytes : List ℕ) : Type 0 where
  pub name : Text
  pub placed : IsPlaced word place name
  pub addressed : address_of place ≡ Some address
  pub held : IfSome (holds name) (λ all. bytes ≡ take 65537 all)

-- What stands for `ADDRESS=NAME`: a setting of the bytes of the file, which lie in memory from the address on.
pub record AreLoaded (base : ℕ) (holds : Text → Option (List ℕ)) (word : Text) (words : List Text) : Type 0 where
  pub place : Text
  pub address : ℕ
  pub bytes : List ℕ
  pub load : IsLoad holds word place address bytes
  pub fit : fits base address (length bytes) ≡ true
  pub said : words ≡ load_words place bytes

-- a word without an address
abbrev pub IsBad : Text → Type 0
IsBad word = IsNowhere word ⊎ ((place : Text) × (name : Text) × IsPlaced word place name × (address_of place ≡ None))

-- bytes that reach past the end of memory, or begin below it
pub record IsPastEnd (base : ℕ) (holds : Text → Option (List ℕ)) (word : Text) : Type 0 where
  pub place : Text
  pub address : ℕ
  pub bytes : List ℕ
  pub load : IsLoad holds word place address bytes
  pub past : fits base address (length bytes) ≡ false

-- why a file isn't put into memory
abbrev pub IsMisfit : (base : ℕ) → (holds : Text → Option (List ℕ)) → Text → Misfit → Type 0
IsMisfit base holds word Bad = IsBad word
IsMisfit base holds word PastEnd = IsPastEnd base holds word
