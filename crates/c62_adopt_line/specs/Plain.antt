-- The line of serial text that stands for a line of packets (docs/ADOPT.md, "Instructions").
use Rattle.std.specs.Prelude.{◌≡◌, ℕ, ◌/◌, ◌%◌, ◌<◌, ℤ, pos, negsuc, Bool, true, ◌==◌, ◌&&◌, ◌||◌, if◌then◌else◌, List, [], ◌∷◌, ◌++◌, codes}
use Rattle.std.specs.Prelude.{Option, Some, None, option_and_then, is_some, length}
use Rattle.std.specs.Fmt.{signed_decimal}
use Rattle.std.specs.List.{flat_map}
use Rattle.c62_op.specs.declared.operands.Op.{Op}
use Rattle.c62_op.specs.Shape.{is_load, is_store}
use Rattle.c62_op.specs.Meaning.{size_of}
use Rattle.c62_token.specs.Kind.{Word}
use Rattle.c62_token.specs.Number.{number_of, spells}
use Rattle.c62_token.specs.declared.token.Tokens.{Tokens}
use Rattle.c62_token.specs.Token.{begins, words_left}
use Rattle.c62_line.specs.Mnemonic.{operation_named}
use Rattle.c62_line.specs.Unit.{is_dot}

-- ---- dots

-- A dot of a name is read as `_`. Of an instruction the first dot is its unit's, and all behind it are of names.
abbrev pub undotted : Bool → List ℕ → List ℕ
undotted behind [] = []
undotted behind (b ∷ bytes) = (if b == 46 && behind then 95 else b) ∷ undotted (b == 46 || behind) bytes

-- ---- offsets in bytes

-- the bytes that an access of this name moves
abbrev pub moved_by : Op → Option ℕ
moved_by op = if is_load op || is_store op then Some (size_of op) else None

abbrev pub bytes_named : Word → Option ℕ
bytes_named name = option_and_then moved_by (operation_named name)

-- so many bytes in accesses of this size; what is no whole number of them is no offset, as -1 is none
abbrev pub accesses_in : ℕ → ℤ → ℤ
accesses_in size (pos n) = if n % size == 0 then pos (n / size) else negsuc 0
accesses_in size (negsuc n) = negsuc 0

-- the number between two round brackets
abbrev pub between_brackets : Word → Word → Word → Option ℤ
between_brackets opening number closing =
    if spells (codes "(") opening && spells (codes ")") closing then number_of number else None

abbrev pub square : ℤ → List Word
square k = codes "[" ∷ signed_decimal k ∷ codes "]" ∷ []

-- an offset of so many bytes and what stands behind it, or else what stands there as it is written
abbrev pub counted : ℕ → Option ℤ → List Word → List Word → List Word
counted size (Some k) behind others = square (accesses_in size k) ++ behind
counted size None behind others = others

-- an offset in round brackets counts bytes, one in square brackets accesses
abbrev pub in_accesses : ℕ → List Word → List Word
in_accesses size (opening ∷ number ∷ closing ∷ words) =
    counted size (between_brackets opening number closing) (in_accesses size words) (opening ∷ in_accesses size (number ∷ closing ∷ words))
in_accesses size words = words

abbrev pub operands_behind : Option ℕ → List Word → List Word
operands_behind None words = words
operands_behind (Some size) words = in_accesses size words

-- ---- an instruction

-- RET, CALL and CALLRET are other names of B
abbrev pub names_branch : Word → Bool
names_branch word = spells (codes "RET") word || spells (codes "CALL") word || spells (codes "CALLRET") word

abbrev pub renamed : Word → Word
renamed word = if names_branch word then codes "B" else word

-- The words of an instruction, of which this one was the last: those up to its unit, which the mnemonic stands before, and
-- its operands.
abbrev pub plain_words : Word → List Word → List Word
plain_words last [] = []
plain_words last (word ∷ words) = renamed word ∷ (if begins is_dot word then operands_behind (bytes_named last) words else plain_words word words)

-- words with a blank behind each
abbrev pub spaced : List Word → List ℕ
spaced words = flat_map (λ word. word ++ codes " ") words

-- ---- what functions find and write

-- a number in round brackets stands first, with these words behind it, or none does
abbrev pub IsRound : List Word → Option ℤ → List Word → Type 0
IsRound (opening ∷ number ∷ closing ∷ words) found behind = (between_brackets opening number closing ≡ found) × (is_some found ≡ true → behind ≡ words)
IsRound words found behind = found ≡ None

abbrev pub FindsRound : Option (ℤ × Tokens) → List Word → Type 0
FindsRound None words = IsRound words None []
FindsRound (Some found) words = IsRound words (Some found.0) (words_left found.1)

-- the first of these words is written, as one of an access of this size, where there is one
abbrev pub PushesNext : ℕ → List ℕ → List Word → List ℕ → Option Tokens → Type 0
PushesNext size old words new None = (words ≡ []) × (new ≡ old)
PushesNext size old words new (Some behind) =
    (new ++ spaced (in_accesses size (words_left behind)) ≡ old ++ spaced (in_accesses size words)) × (length (words_left behind) < length words)
