-- What the tokens of a line are: marks, registers, numbers and names (docs/SERIAL_TEXT.md, "Tokens").
use Rattle.std.specs.Prelude.{◌≡◌, ◌<◌, length, ℕ, ℤ, Bool, true, false, ◌==◌, ◌&&◌, List, [], ◌∷◌, map, Option, Some, None, if◌then◌else◌}
use Rattle.c62_op.specs.declared.register.Reg.{Reg}
use Rattle.c62_op.specs.declared.set.InstructionSet.{InstructionSet}
use Rattle.c62_op.specs.declared.set.InstructionSet.TheVariants.{Core, Full}
use Rattle.c62_token.specs.declared.kind.Kind.{Kind}
use Rattle.c62_token.specs.declared.kind.Kind.TheVariants.{Comma, Star, Open, Close, Not, Plus, Minus, Increment, Decrement, Register, Number, Alias, Suffixed, Name}
use Rattle.std.specs.Borrow.{Bor}
use Rattle.c62_token.specs.declared.token.Tokens.{Tokens}
use Rattle.c62_token.specs.Token.{tokens, words_left}
use Rattle.c62_token.specs.Number.{number_of, register_of, pointer_of, suffixed_of}

-- a token, as its bytes
abbrev pub Word : Type 0
Word = List ℕ

-- `,` `*` `[` `]` `!` `+` `-`
unfoldable pub single_mark : ℕ → Option Kind
single_mark b =
    if b == 44 then Some Comma
    else (if b == 42 then Some Star
    else (if b == 91 then Some Open
    else (if b == 93 then Some Close
    else (if b == 33 then Some Not
    else (if b == 43 then Some Plus
    else (if b == 45 then Some Minus
    else None))))))

-- one of these, `++` or `--`
unfoldable pub mark_of : Word → Option Kind
mark_of (b ∷ []) = single_mark b
mark_of (b ∷ c ∷ []) =
    if b == 43 && c == 43 then Some Increment
    else (if b == 45 && c == 45 then Some Decrement
    else None)
mark_of _ = None

-- another name of a register, and another spelling of a number: only the full set of instructions has them
abbrev pub other_kind : Option Reg → Option ℤ → Kind
other_kind (Some reg) number = Alias reg
other_kind None (Some k) = Suffixed k
other_kind None None = Name

abbrev pub value_kind : Option Reg → Option ℤ → Kind → Kind
value_kind (Some reg) number other = Register reg
value_kind None (Some k) other = Number k
value_kind None None other = other

abbrev pub kind_by : Option Kind → Word → Kind
kind_by (Some mark) word = mark
kind_by None word = value_kind (register_of word) (number_of word) (other_kind (pointer_of word) (suffixed_of word))

-- a mark, a register, a number, one of these by another spelling, or else a name
unfoldable pub kind_of : Word → Kind
kind_of word = kind_by (mark_of word) word

abbrev pub kinds_of : List Word → List Kind
kinds_of words = map kind_of words

-- whether `[` stands first
abbrev pub is_open : Option Kind → Bool
is_open (Some Open) = true
is_open _ = false

abbrev pub first_is_open : List Word → Bool
first_is_open [] = false
first_is_open (word ∷ words) = is_open (mark_of word)

-- the marks that are never part of a longer token
abbrev pub lone_mark : ℕ → Option Kind
lone_mark b =
    if b == 44 then Some Comma
    else (if b == 42 then Some Star
    else (if b == 91 then Some Open
    else (if b == 93 then Some Close
    else (if b == 33 then Some Not
    else None))))

-- what the first token of a line is, and the line behind it, where it has one
abbrev pub IsFirstKind : Option (Kind × Bor (List ℕ)) → List Word → Type 0
IsFirstKind None words = words ≡ []
IsFirstKind (Some found) words = kinds_of words ≡ found.0 ∷ kinds_of (tokens found.1.now)

-- what the first token of these is, and the others
abbrev pub IsKindCutOff : Option (Kind × Tokens) → Tokens → Type 0
IsKindCutOff None line = words_left line ≡ []
IsKindCutOff (Some found) line = (words_left line ≡ line.first.now ∷ words_left found.1) × (found.0 ≡ kind_of line.first.now)

-- ---- by the set of instructions

-- what a token is to the reader of a set: another spelling is what it stands for, where the set has it
abbrev pub if_full : InstructionSet → Kind → Kind → Kind
if_full Core kind plain = kind
if_full Full kind plain = plain

abbrev pub read_in : InstructionSet → Kind → Kind
read_in set (Alias reg) = if_full set (Alias reg) (Register reg)
read_in set (Suffixed k) = if_full set (Suffixed k) (Number k)
read_in set kind = kind

abbrev pub kinds_in : InstructionSet → List Word → List Kind
kinds_in set words = map (read_in set) (kinds_of words)

-- these are what the tokens are to that reader, or there are more than eight of those
abbrev pub HoldsKinds : InstructionSet → Bool → List Kind → List Word → Type 0
HoldsKinds set true kinds words = kinds ≡ kinds_in set words
HoldsKinds set false kinds words = 8 < length words
