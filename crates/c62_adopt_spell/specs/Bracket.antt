-- Numbers in round brackets (docs/ADOPT.md, "Other spellings").
use Rattle.std.specs.Prelude.{◌≡◌, ◌<◌, ℕ, ℤ, Bool, true, false, ◌||◌, List, [], ◌∷◌, ◌++◌, length, codes, Option, Some, None, is_some}
use Rattle.std.specs.Fmt.{signed_decimal}
use Rattle.c62_token.specs.Kind.{Word}
use Rattle.c62_token.specs.Number.{register_of, spells}
use Rattle.c62_token.specs.Token.{words_left}
use Rattle.c62_token.specs.declared.token.Tokens.{Tokens}
use Rattle.c62_adopt_line.specs.Plain.{IsRound, between_brackets, spaced}

-- behind a register or a step an offset stands
abbrev pub is_base : Word → Bool
is_base word = is_some (register_of word) || spells (codes "++") word || spells (codes "--") word

abbrev pub dropped : Bool → Option ℤ → List Word → List Word → List Word
dropped true found behind others = others
dropped false None behind others = others
dropped false (Some k) behind others = signed_decimal k ∷ behind

-- words without the round brackets of a number that is no offset; whether one may stand first
abbrev pub unbracketed : Bool → List Word → List Word
unbracketed base (opening ∷ number ∷ closing ∷ words) =
    dropped base (between_brackets opening number closing) (unbracketed false words)
    (opening ∷ unbracketed (is_base opening) (number ∷ closing ∷ words))
unbracketed base words = words

-- a number in brackets that are of no offset stands first, with these words behind it, or none does
abbrev pub FindsLoose : Bool → Option (ℤ × Tokens) → List Word → Type 0
FindsLoose base None words = base ≡ false → IsRound words None []
FindsLoose base (Some found) words = (base ≡ false) × IsRound words (Some found.0) (words_left found.1)

-- the first of these words is written, or the number in brackets that they begin with
abbrev pub PushesNext : Bool → List ℕ → List Word → List ℕ → Option (Bool × Tokens) → Type 0
PushesNext base old words new None = (words ≡ []) × (new ≡ old)
PushesNext base old words new (Some found) =
    (new ++ spaced (unbracketed found.0 (words_left found.1)) ≡ old ++ spaced (unbracketed base words)) × (length (words_left found.1) < length words)
