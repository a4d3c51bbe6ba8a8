-- Why a word is no setting (docs/FAULTS.md, "What `--explain` prints").
use Rattle.std.specs.Prelude.{ℕ, ◌+◌, Bool, true, false, ◌==◌, nat_eq, List, [], ◌∷◌, ◌++◌, take, drop, find, codes, Option, Some, None, is_none, unwrap_or, if◌then◌else◌}
use Rattle.std.specs.List.{position, starts_with}
use Rattle.std.specs.Str.{bytes_eq}
use Rattle.clap.specs.Words.{Text}
use Rattle.c62_op.specs.declared.register.Reg.{Reg}
use Rattle.c62_token.specs.Number.{number_of, register_of}
use Rattle.c62_command.specs.Blamed.{base_given, setting_at}
use Rattle.c62_command.specs.Settings.{parts, place_in}
use Rattle.c62_command.specs.declared.setting.Size.{Size}
use Rattle.c62_command.specs.declared.setting.Size.TheVariants.{Byte, Half, Word}

abbrev pub is_no_number : Text → Bool
is_no_number value = is_none (number_of value)

abbrev pub no_number : Text → List ℕ
no_number value = value ++ codes " is no number: decimal, or 0x and hexadecimal digits, in 32 bits"

-- where in memory values of a size can be, where it begins at 0 or elsewhere
abbrev pub no_room : (is_zero : Bool) → Size → List ℕ
no_room true Byte = codes "bytes of memory have addresses from 0 to 65535"
no_room true Half = codes "halves of memory have addresses from 0 to 65534 that are multiples of 2"
no_room true Word = codes "words of memory have addresses from 0 to 65532 that are multiples of 4"
no_room false Byte = codes "bytes of memory have addresses from --base on to 65535 behind it"
no_room false Half = codes "halves of memory have addresses from --base on to 65534 behind it that are multiples of 2"
no_room false Word = codes "words of memory have addresses from --base on to 65532 behind it that are multiples of 4"

-- a value is no number, or else there is no room for all of them
abbrev pub values_reason : (is_zero : Bool) → Size → Option Text → List ℕ
values_reason is_zero size (Some value) = no_number value
values_reason is_zero size None = no_room is_zero size

-- what addresses there are
abbrev pub no_address : (is_zero : Bool) → List ℕ
no_address true = codes " is no address: 0 to 65535, with :h behind it for halves or :b for bytes"
no_address false = codes " is no address: from --base on to 65535 behind it, with :h behind it for halves or :b for bytes"

abbrev pub memory_reason : (is_zero : Bool) → (place values : Text) → Option (ℕ × Size) → List ℕ
memory_reason is_zero place values None = place ++ no_address is_zero
memory_reason is_zero place values (Some found) = values_reason is_zero found.1 (find is_no_number (parts values))

abbrev pub register_reason : (name value : Text) → Option Reg → List ℕ
register_reason name value None = name ++ codes " is no register: A0 to A15 and B0 to B15, or @ and an address"
register_reason name value (Some reg) = no_number value

-- what can be printed
abbrev pub print_reason : List ℕ
print_reason =
    codes "ADDRESS+LENGTH is printed, whole words within memory; with :h, :b, :d, :hd or :bd behind it halves, bytes or decimals"

-- what can be written to a file
abbrev pub dump_reason : List ℕ
dump_reason = codes "--dump ADDRESS+LENGTH=NAME writes bytes within memory to a file"

-- where memory can begin
abbrev pub base_reason : List ℕ
base_reason = codes "--base ADDRESS lets memory begin at a multiple of 4, 0 to 0xffff0000"

-- `print` prints, `dump` writes to a file, `base` is where memory begins, and any other name is that of a register
abbrev pub named_reason : (name value : Text) → List ℕ
named_reason name value =
    if bytes_eq name (codes "print") then print_reason
    else (if bytes_eq name (codes "dump") then dump_reason
    else (if bytes_eq name (codes "base") then base_reason
    else register_reason name value (register_of name)))

-- why these values can't be put into `@ADDRESS`, or this one into a register, or why that can't be printed
abbrev pub reason_at : (base : ℕ) → (place values : Text) → List ℕ
reason_at base place values =
    if starts_with nat_eq place (64 ∷ []) then memory_reason (base == 0) (drop 1 place) values (place_in base (drop 1 place))
    else named_reason place values

abbrev pub reason_by : (base : ℕ) → Text → Option ℕ → List ℕ
reason_by base word None = codes "a setting is REG=NUMBER, or @ADDRESS=NUMBER,.. with :h or :b behind the address for halves or bytes"
reason_by base word (Some k) = reason_at base (take k word) (drop (k + 1) word)

-- why a word is no setting where memory begins at a base: its place is none, or what is put there
abbrev pub reason : (base : ℕ) → Text → List ℕ
reason base word = reason_by base word (position (λ b. b == 61) word)

-- the word, and why it is no setting
abbrev pub word_taught : (base : ℕ) → Option Text → List ℕ
word_taught base None = []
word_taught base (Some word) = word ++ codes ": " ++ reason base word ++ codes "\n"

-- that of setting k, from 1, of these words
abbrev pub setting_taught : List Text → ℕ → List ℕ
setting_taught words k = word_taught (unwrap_or (base_given words) 0) (setting_at words k)
