-- A statement in the spelling that the reader of lines has (docs/ADOPT.md, "Other spellings").
use Rattle.std.specs.Prelude.{ℕ, Bool, true, false, not, ◌==◌, ◌&&◌, ◌||◌, List, [], ◌∷◌, map, codes, Option, Some, is_some, if◌then◌else◌}
use Rattle.std.specs.List.{list_any}
use Rattle.c62_token.specs.Kind.{Word}
use Rattle.c62_token.specs.Number.{register_of, spells}
use Rattle.c62_token.specs.Token.{begins, tokens}
use Rattle.c62_op.specs.Name.{register_name}
use Rattle.c62_line.specs.Unit.{is_dot}
use Rattle.c62_adopt_line.specs.Plain.{names_branch, spaced, undotted}
use Rattle.c62_adopt_spell.specs.declared.names.Setting.{Setting}
use Rattle.c62_adopt_spell.specs.declared.names.Value.{Value}
use Rattle.c62_adopt_spell.specs.declared.names.Value.TheVariants.{Register}
use Rattle.c62_adopt_spell.specs.Names.{value_named}
use Rattle.c62_adopt_spell.specs.declared.sum.Sum.TheVariants.{Nothing}
use Rattle.c62_adopt_spell.specs.Bracket.{unbracketed}
use Rattle.c62_adopt_spell.specs.Sum.{summed}

-- a pair of registers with a colon between
abbrev pub begins_with_pair : List Word → Bool
begins_with_pair (one ∷ colon ∷ other ∷ words) = is_some (register_of one) && spells (codes ":") colon && is_some (register_of other)
begins_with_pair words = false

abbrev pub has_pair : List Word → Bool
has_pair [] = false
has_pair (word ∷ words) = begins_with_pair (word ∷ words) || has_pair words

abbrev pub is_branch : Word → Bool
is_branch word = spells (codes "B") word || names_branch word

-- what a branch goes to may have any name
abbrev pub goes : List Word → Bool
goes words = list_any is_branch words

-- the dots of names as `_`, and the colon of a pair of registers as a blank
abbrev pub smooth_byte : Bool → ℕ → ℕ
smooth_byte pair b = if b == 58 && pair then 32 else b

abbrev pub smoothed : Bool → List ℕ → List ℕ
smoothed pair bytes = map (smooth_byte pair) (undotted false bytes)

abbrev pub with_sums : List Setting → List ℕ → List ℕ
with_sums names bytes = spaced (summed names Nothing (tokens bytes))

abbrev pub without_brackets : List ℕ → List ℕ
without_brackets bytes = spaced (unbracketed false (tokens bytes))

-- numbers that are added up or stand in brackets, as one each, below these settings
abbrev pub reckoned : List Setting → List ℕ → List ℕ
reckoned names bytes = with_sums names (without_brackets (with_sums names bytes))

-- the register that a name stands for, or the word itself
abbrev pub registered : Option Value → Word → Word
registered (Some (Register reg)) word = register_name reg
registered named word = word

-- words with the registers for which names stand, up to the name of a branch
abbrev pub fronted : List Setting → Bool → List Word → List Word
fronted names before [] = []
fronted names before (word ∷ words) =
    (if before && not (is_branch word) then registered (value_named names word) word else word) ∷ fronted names (before && not (is_branch word)) words

-- a branch, whose condition may have a name
abbrev pub conditioned : List Setting → List ℕ → List ℕ
conditioned names bytes = spaced (fronted names true (tokens bytes))

-- directives stay as they are
abbrev pub words_stated : List Setting → List ℕ → List Word → List ℕ
words_stated names bytes [] = bytes
words_stated names bytes (word ∷ words) =
    if begins is_dot word then bytes
    else (if goes (word ∷ words) then conditioned names (smoothed false bytes)
    else reckoned names (smoothed (has_pair (word ∷ words)) bytes))

unfoldable pub stated : List Setting → List ℕ → List ℕ
stated names bytes = words_stated names bytes (tokens bytes)
