-- The words of a call with the words of its files of settings in their places (docs/COMMANDS.md, "Files").
use Rattle.std.specs.Prelude.{◌≡◌, ℕ, ◌+◌, ◌≤◌, Bool, true, false, List, [], ◌∷◌, ◌++◌, ◌⊎◌, length, map, take, codes, fold, slice_get, unwrap_or, Option, Some, None, IfSome}
use Rattle.std.specs.List.{count_by}
use Rattle.std.specs.Str.Lossy.{utf8_lossy}
use Rattle.c62_files.specs.Words.{Text, Word, Plain, InputName, OutputName, SettingsName, Loads, Prints, Dumps, Begins, extent_of}
pub use Rattle.c62_files.specs.Writing.{Holding}
use Rattle.c62_files.specs.Load.{AreLoaded, IsMisfit, IsPlaced, address_of}
use Rattle.c62_files.specs.Settings.{settings_words}
use Rattle.c62_files.specs.declared.expand.TheConstants.{MOST_SETTINGS}
use Rattle.c62_files.specs.declared.expand.Unread.{Unread}
use Rattle.c62_files.specs.declared.expand.Unexpanded.{Unexpanded}
use Rattle.c62_files.specs.declared.expand.Unexpanded.TheVariants.{Unread as Missing, Load}
use Rattle.c62_files.specs.declared.load.Misfit.{Misfit}
use Rattle.c62_files.specs.declared.load.Stopped.{Stopped}
use Rattle.c62_files.specs.declared.load.Stopped.TheVariants.{Unread as NotRead, Misfit as NotFit}
use Rattle.c62_files.specs.declared.folder.FileError.TheVariants.{Memory}

-- the words of a file of settings that is no longer than it may be; bytes that are no UTF-8 are none of a setting
pub record AreOfFile (holds : Holding) (name : Text) (words : List Text) : Type 0 where
  pub bytes : List ℕ
  pub held : IfSome (holds name) (λ all. bytes ≡ all)
  pub short : length bytes ≤ MOST_SETTINGS
  pub said : words ≡ map utf8_lossy (settings_words bytes)

-- the address at which a word lets memory begin, and that of the last of these words that does, or 0
abbrev pub begin_by : Word → Option ℕ
begin_by (Begins word) = address_of word
begin_by _ = None

abbrev pub begin_after : ℕ → Word → ℕ
begin_after base word = unwrap_or (begin_by word) base

abbrev pub begin_among : List Word → ℕ
begin_among words = fold begin_after 0 words

-- what stands in the place of a word, where memory begins at a base
abbrev pub Gives : (base : ℕ) → Holding → Word → List Text → Type 0
Gives base holds (Plain word) words = words ≡ word ∷ []
Gives base holds (SettingsName name) words = AreOfFile holds name words
Gives base holds (Loads word) words = AreLoaded base holds word words
Gives base holds (Prints word) words = words ≡ (codes "print=" ++ word) ∷ []
Gives base holds (Dumps word) words = words ≡ (codes "dump=" ++ extent_of word) ∷ []
Gives base holds (Begins word) words = words ≡ (codes "base=" ++ word) ∷ []
Gives base holds (InputName name) words = words ≡ []
Gives base holds (OutputName name) words = words ≡ []

-- what stands in the places of all words
unfoldable pub ExpandsFrom : (base : ℕ) → Holding → List Word → List Text → Type 0
ExpandsFrom base holds [] words = words ≡ []
ExpandsFrom base holds (piece ∷ pieces) words =
    (mine : List Text) × (others : List Text) × Gives base holds piece mine × ExpandsFrom base holds pieces others × (words ≡ mine ++ others)

abbrev pub Expands : Holding → List Word → List Text → Type 0
Expands holds pieces words = ExpandsFrom (begin_among pieces) holds pieces words

-- these words, and then what stands in the places of the rest, stand in the places of all
abbrev pub IsGrown : (base : ℕ) → Holding → (all : List Word) → (done : List Text) → (rest : List Word) → Type 0
IsGrown base holds all done rest = (words : List Text) → ExpandsFrom base holds rest words → ExpandsFrom base holds all (done ++ words)

-- the file that is read for what stands in the place of a word
abbrev pub IsFileOf : Word → Text → Type 0
IsFileOf (SettingsName file) name = name ≡ file
IsFileOf (Loads word) name = (address : Text) × IsPlaced word address name
IsFileOf _ name = ⊥

-- why it isn't known what stands in the place of a word: its file isn't read, or memory ran out
abbrev pub IsUnreadAt : Word → Unread → Type 0
IsUnreadAt word unread = (unread.error ≡ Memory) ⊎ IsFileOf word unread.name.now

-- or the file that it loads doesn't fit
abbrev pub IsStoppedAt : (base : ℕ) → Holding → Word → Stopped → Type 0
IsStoppedAt base holds word (NotRead unread) = IsUnreadAt word unread
IsStoppedAt base holds (Loads word) (NotFit misfit) = IsMisfit base holds word misfit
IsStoppedAt base holds _ (NotFit misfit) = ⊥

-- the file of one of these words isn't read
pub record IsUnread (words : List Word) (unread : Unread) : Type 0 where
  pub at : ℕ
  pub word : Word
  pub stands : slice_get words at ≡ Some word
  pub why : IsUnreadAt word unread

abbrev pub is_load : Word → Bool
is_load (Loads word) = true
is_load _ = false

-- the file that the load of this number, from 1, among these words puts into memory doesn't fit
pub record IsMisfitAmong (holds : Holding) (words : List Word) (number : ℕ) (misfit : Misfit) : Type 0 where
  pub at : ℕ
  pub word : Text
  pub stands : slice_get words at ≡ Some (Loads word)
  pub counted : number ≡ count_by is_load (take at words) + 1
  pub why : IsMisfit (begin_among words) holds word misfit

-- why it isn't known what stands in the places of words
abbrev pub IsUnexpanded : Holding → List Word → Unexpanded → Type 0
IsUnexpanded holds words (Missing unread) = IsUnread words unread
IsUnexpanded holds words (Load number misfit) = IsMisfitAmong holds words number misfit

-- what stopped at a word, where that is the load of this number if it is one
abbrev pub numbered : ℕ → Stopped → Unexpanded
numbered number (NotRead unread) = Missing unread
numbered number (NotFit misfit) = Load number misfit
