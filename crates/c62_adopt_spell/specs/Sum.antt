-- Sums and differences of numbers (docs/ADOPT.md, "Other spellings").
use Rattle.std.specs.Prelude.{◌≡◌, ℕ, ℤ, pos, Bool, true, false, ◌||◌, if◌then◌else◌, List, [], ◌∷◌, ◌++◌, codes, Option, Some, None}
use Rattle.std.specs.Fmt.{signed_decimal}
use Rattle.c62_token.specs.Kind.{Word}
use Rattle.std.specs.Str.{bytes_eq}
use Rattle.c62_token.specs.Number.{spells}
use Rattle.c62_token.specs.Token.{begins, is_sign}
use Rattle.c62_line.specs.Unit.{is_dot}
use Rattle.c62_adopt_line.specs.Plain.{spaced}
use Rattle.c62_adopt_spell.specs.Number.{plain_name, total, value_of}
use Rattle.c62_op.specs.Name.{register_name}
use Rattle.c62_adopt_spell.specs.declared.names.Setting.{Setting}
use Rattle.c62_adopt_spell.specs.declared.names.Value.{Value}
use Rattle.c62_adopt_spell.specs.declared.names.Value.TheVariants.{Constant, Register}
use Rattle.c62_adopt_spell.specs.Names.{value_named}
use Rattle.c62_adopt_spell.specs.declared.sum.Sum.{Sum}
use Rattle.c62_adopt_spell.specs.declared.sum.Sum.TheVariants.{Nothing, Front, Number, Signed}

abbrev pub sign_word : Bool → Word
sign_word true = codes "-"
sign_word false = codes "+"

-- what is written of a sum that doesn't go on
abbrev pub flushed : Sum → List Word
flushed Nothing = []
flushed Front = []
flushed (Number m) = signed_decimal m ∷ []
flushed (Signed m minus) = signed_decimal m ∷ sign_word minus ∷ []

abbrev pub summed_to : Sum → Option ℤ → ℤ → List Word × Sum
summed_to sum (Some n) k = ([], Number n)
summed_to sum None k = (flushed sum, Number k)

-- behind a number: another with a sign is added to it
abbrev pub number_behind : Bool → Sum → ℤ → List Word × Sum
number_behind signed Nothing k = ([], Number k)
number_behind signed Front k = ([], Number k)
number_behind signed (Number m) k = summed_to (Number m) (if signed then total false m k else None) k
number_behind signed (Signed m minus) k = summed_to (Signed m minus) (total minus m k) k

-- a number and a sign behind it
abbrev pub signed_with : ℤ → Word → Option Sum
signed_with m word =
    if bytes_eq word (codes "-") then Some (Signed m true) else (if bytes_eq word (codes "+") then Some (Signed m false) else None)

-- a sign in front of an operand stands behind 0
abbrev pub signed_by : Sum → Word → Option Sum
signed_by (Number m) word = signed_with m word
signed_by Front word = signed_with (pos 0) word
signed_by sum word = None

-- an operand begins behind the unit, a comma or a bracket
abbrev pub opens_operand : Word → Bool
opens_operand word = begins is_dot word || spells (codes ",") word || spells (codes "(") word || spells (codes "[") word

abbrev pub sum_behind : Word → Sum
sum_behind word = if opens_operand word then Front else Nothing

abbrev pub or_written : Option Sum → Sum → Word → List Word × Sum
or_written (Some next) sum word = ([], next)
or_written None sum word = (flushed sum ++ plain_name word ∷ [], sum_behind word)

-- behind a word that is no number
abbrev pub word_behind : Sum → Word → List Word × Sum
word_behind sum word = or_written (signed_by sum word) sum word

-- a name stands for what it is set to
abbrev pub name_behind : Option Value → Sum → Word → List Word × Sum
name_behind (Some (Constant k)) sum word = number_behind false sum k
name_behind (Some (Register reg)) sum word = (flushed sum ++ register_name reg ∷ [], Nothing)
name_behind None sum word = word_behind sum word

-- what is written with a word, and the sum behind it
abbrev pub step_by : Option ℤ → Option Value → Sum → Word → List Word × Sum
step_by (Some k) named sum word = number_behind (begins is_sign word) sum k
step_by None named sum word = name_behind named sum word

abbrev pub step : List Setting → Sum → Word → List Word × Sum
step names sum word = step_by (value_of word) (value_named names word) sum word

-- words with each sum of numbers as one, below these sums
abbrev pub summed : List Setting → Sum → List Word → List Word
summed names sum [] = flushed sum
summed names sum (word ∷ words) = (step names sum word).0 ++ summed names (step names sum word).1 words

-- what a step writes and leaves
pub record Steps (wanted : List Word × Sum) (old new : List ℕ) (sum : Sum) : Type 0 where
  pub sum_is : sum ≡ wanted.1
  pub written : new ≡ old ++ spaced wanted.0
