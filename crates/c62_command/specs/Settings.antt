-- The settings of the command line (docs/REPORT.md, "Settings").
use Rattle.std.specs.Prelude.{◌≡◌, ℕ, ◌+◌, ◌-◌, ◌*◌, ◌/◌, ◌%◌, ◌<◌, ◌≤◌, ℤ, pos, int_le, unsigned_abs, Bool, true, false, ◌==◌, ◌&&◌, nat_eq, nat_le, List, [], ◌∷◌, ◌++◌, length, take, drop, codes, Option, Some, None, is_some, option_map, option_and_then, unwrap_or, fold, IsTrue, if◌then◌else◌}
use Rattle.std.specs.List.{All, position, starts_with}
use Rattle.std.specs.Borrow.{Bor}
use Rattle.std.specs.Str.{bytes_eq}
use Rattle.c62_op.specs.Word.{word}
use Rattle.c62_token.specs.Number.{number_of, register_of}
use Rattle.c62_command.specs.declared.setting.Setting.{Setting}
use Rattle.c62_command.specs.declared.setting.Setting.TheVariants.{Register, Byte as InByte, Half as InHalf, Word as InWord, Print as Prints, Dump as Dumps, Base as Begins}
use Rattle.c62_command.specs.declared.setting.Size.{Size}
use Rattle.c62_command.specs.declared.setting.Size.TheVariants.{Byte, Half, Word}
use Rattle.c62_command.specs.declared.setting.SettingError.{SettingError}
use Rattle.c62_command.specs.declared.setting.SettingError.TheVariants.{Bad}

-- ---- memory

-- how many bytes a value is put into
abbrev pub bytes_in : Size → ℕ
bytes_in Byte = 1
bytes_in Half = 2
bytes_in Word = 4

-- memory from this place on is set to the low bytes of a value
abbrev pub set_at : Size → ℕ → ℕ → Setting
set_at Byte place value = InByte place value
set_at Half place value = InHalf place value
set_at Word place value = InWord place value

-- the place lies in memory, and on the size
abbrev pub holds : Size → ℕ → Bool
holds size place = nat_le place 65535 && place % bytes_in size == 0

-- an address is a word
abbrev pub address_of : ℤ → Option ℕ
address_of z = if int_le (pos 0) z && int_le z (pos 4294967295) then Some (unsigned_abs z) else None

-- its place in memory that begins at a base: how far it lies behind it, below 65,536
abbrev pub place_behind : (base address : ℕ) → Option ℕ
place_behind base address = if nat_le base address && nat_le (address - base) 65535 then Some (address - base) else None

abbrev pub place_of : ℕ → ℤ → Option ℕ
place_of base z = option_and_then (place_behind base) (address_of z)

-- the size that stands behind a colon
abbrev pub size_named : List ℕ → Option Size
size_named name = if bytes_eq name (codes "b") then Some Byte else (if bytes_eq name (codes "h") then Some Half else None)

-- the place of an address, and the size of the values that are put there
abbrev pub place_at : ℕ → List ℕ → Size → Option (ℕ × Size)
place_at base text size = option_map (λ place. (place, size)) (option_and_then (place_of base) (number_of text))

-- `ADDRESS:b` is of bytes, `ADDRESS:h` of halves, and `ADDRESS` of words
abbrev pub place_parted : ℕ → List ℕ → Option ℕ → Option (ℕ × Size)
place_parted base text None = place_at base text Word
place_parted base text (Some k) = option_and_then (place_at base (take k text)) (size_named (drop (k + 1) text))

unfoldable pub place_in : ℕ → List ℕ → Option (ℕ × Size)
place_in base text = place_parted base text (position (λ b. b == 58) text)

-- a number, modulo 2^32
abbrev pub value_of : List ℕ → Option ℕ
value_of text = option_map word (number_of text)

abbrev pub onto : ℕ → List (List ℕ) → List (List ℕ)
onto byte [] = (byte ∷ []) ∷ []
onto byte (part ∷ parts) = (byte ∷ part) ∷ parts

-- what stands between the commas of a text
unfoldable pub parts : List ℕ → List (List ℕ)
parts [] = [] ∷ []
parts (byte ∷ text) = if byte == 44 then [] ∷ parts text else onto byte (parts text)

-- the first part of a text, and what stands behind its comma, which is shorter
abbrev pub IsParted : List ℕ → List ℕ → Option (Bor (List ℕ)) → Type 0
IsParted text part None = parts text ≡ part ∷ []
IsParted text part (Some behind) = (parts text ≡ part ∷ parts behind.now) × (length behind.now < length text)

abbrev pub and_setting : Option Setting → Option (List Setting) → Option (List Setting)
and_setting (Some setting) (Some settings) = Some (setting ∷ settings)
and_setting _ _ = None

-- the value that a text says is put at a place
abbrev pub cell : Size → ℕ → List ℕ → Option Setting
cell size place text = if holds size place then option_map (set_at size place) (value_of text) else None

-- values one behind the other, from a place on
unfoldable pub cells : Size → ℕ → List (List ℕ) → Option (List Setting)
cells size place [] = Some []
cells size place (text ∷ texts) = and_setting (cell size place text) (cells size (place + bytes_in size) texts)

-- ---- what is printed

-- from 1 to 65,536
abbrev pub length_of : ℤ → Option ℕ
length_of z = if int_le (pos 1) z && int_le z (pos 65536) then Some (unsigned_abs z) else None

-- the place of the address that a text says
abbrev pub address_in : ℕ → List ℕ → Option ℕ
address_in base text = option_and_then (place_of base) (number_of text)

abbrev pub length_in : List ℕ → Option ℕ
length_in text = option_and_then length_of (number_of text)

-- so many bytes are values of this size
abbrev pub is_whole : Size → ℕ → Bool
is_whole size length = length % bytes_in size == 0

-- so many bytes from a place on lie in memory, and are values of this size
abbrev pub spans : Size → ℕ → ℕ → Bool
spans size place length = holds size place && is_whole size length && nat_le (place + length) 65536

-- the values of so many bytes from a place on
abbrev pub printed : (place length : ℕ) → (size : Size) → (signed : Bool) → Option Setting
printed place length size signed =
    if spans size place length then Some (Prints (record { place = place; count = length / bytes_in size; size = size; signed = signed }))
    else None

-- `ADDRESS+LENGTH`
abbrev pub extent_in : ℕ → List ℕ → Option (ℕ × ℕ)
extent_in base text =
    option_and_then (λ k. option_and_then (λ place. option_map (λ length. (place, length)) (length_in (drop (k + 1) text))) (address_in base (take k text)))
    (position (λ b. b == 43) text)

abbrev pub print_as : ℕ → List ℕ → Size → Bool → Option Setting
print_as base text size signed = option_and_then (λ extent. printed extent.0 extent.1 size signed) (extent_in base text)

-- what stands behind a colon: halves, bytes, and words, halves or bytes as signed decimals
abbrev pub form_named : List ℕ → Option (Size × Bool)
form_named name =
    if bytes_eq name (codes "h") then Some (Half, false)
    else (if bytes_eq name (codes "b") then Some (Byte, false)
    else (if bytes_eq name (codes "d") then Some (Word, true)
    else (if bytes_eq name (codes "hd") then Some (Half, true)
    else (if bytes_eq name (codes "bd") then Some (Byte, true)
    else None))))

-- without a colon values are words in hexadecimal digits
abbrev pub print_parted : ℕ → List ℕ → Option ℕ → Option Setting
print_parted base text None = print_as base text Word false
print_parted base text (Some k) = option_and_then (λ form. print_as base (take k text) form.0 form.1) (form_named (drop (k + 1) text))

unfoldable pub print_setting : ℕ → List ℕ → Option Setting
print_setting base text = print_parted base text (position (λ b. b == 58) text)

-- ---- what goes to files

-- so many bytes from a place on
abbrev pub dumped : (place length : ℕ) → Option Setting
dumped place length = if spans Byte place length then Some (Dumps (record { place = place; count = length })) else None

abbrev pub dump_setting : ℕ → List ℕ → Option Setting
dump_setting base text = option_and_then (λ extent. dumped extent.0 extent.1) (extent_in base text)

-- values that are printed lie in memory, each on its size, and so do bytes that go to files
abbrev pub PrintsMemory : Setting → Type 0
PrintsMemory (Prints print) = (print.place % bytes_in print.size ≡ 0) × (print.place + print.count * bytes_in print.size ≤ 65536)
PrintsMemory (Dumps dump) = dump.place + dump.count ≤ 65536
PrintsMemory _ = Unit {0}

-- ---- words

abbrev pub register_setting : List ℕ → List ℕ → Option Setting
register_setting name text = option_and_then (λ reg. option_map (Register reg) (value_of text)) (register_of name)

abbrev pub one : Option Setting → Option (List Setting)
one setting = option_map (λ s. s ∷ []) setting

abbrev pub memory_settings : ℕ → List ℕ → List ℕ → Option (List Setting)
memory_settings base name text = option_and_then (λ found. cells found.1 found.0 (parts text)) (place_in base name)

-- an address at which memory can begin: a multiple of 4 from which 65,536 bytes end by 2^32
abbrev pub is_base : ℕ → Bool
is_base address = nat_le address 4294901760 && address % 4 == 0

abbrev pub base_at : ℕ → Option ℕ
base_at address = if is_base address then Some address else None

abbrev pub base_of : ℤ → Option ℕ
base_of z = option_and_then base_at (address_of z)

-- memory begins at the address that a text says
abbrev pub base_setting : List ℕ → Option Setting
base_setting text = option_map Begins (option_and_then base_of (number_of text))

-- `print` prints, `dump` writes to a file, `base` is where memory begins, and any other name is that of a register
abbrev pub named_setting : ℕ → List ℕ → List ℕ → Option Setting
named_setting base name text =
    if bytes_eq name (codes "print") then print_setting base text
    else (if bytes_eq name (codes "dump") then dump_setting base text
    else (if bytes_eq name (codes "base") then base_setting text
    else register_setting name text))

-- what is set where this is put into `@ADDRESS`, `@ADDRESS:h`, `@ADDRESS:b` or a register, or what is printed or goes to a file
unfoldable pub settings_at : ℕ → List ℕ → List ℕ → Option (List Setting)
settings_at base name text =
    if starts_with nat_eq name (64 ∷ []) then memory_settings base (drop 1 name) text
    else one (named_setting base name text)

-- the settings that a word says where memory begins at this base: what stands before its first `=` is set to what stands behind
unfoldable pub settings_in : ℕ → List ℕ → Option (List Setting)
settings_in base text = option_and_then (λ k. settings_at base (take k text) (drop (k + 1) text)) (position (λ b. b == 61) text)

abbrev pub and_settings : Option (List Setting) → Option (List Setting) → Option (List Setting)
and_settings (Some mine) (Some settings) = Some (mine ++ settings)
and_settings _ _ = None

-- the settings of these words, where each is one or more
abbrev pub settings_from : ℕ → List (List ℕ) → Option (List Setting)
settings_from base [] = Some []
settings_from base (text ∷ texts) = and_settings (settings_in base text) (settings_from base texts)

-- the address that a word says memory begins at, where it says one
abbrev pub base_said : (name text : List ℕ) → Option ℕ
base_said name text = if bytes_eq name (codes "base") then option_and_then base_of (number_of text) else None

unfoldable pub base_in : List ℕ → Option ℕ
base_in text = option_and_then (λ k. base_said (take k text) (drop (k + 1) text)) (position (λ b. b == 61) text)

-- where memory begins by these words: at 0, or where the last of them says
abbrev pub base_after : ℕ → List ℕ → ℕ
base_after base text = unwrap_or (base_in text) base

abbrev pub base_among : List (List ℕ) → ℕ
base_among texts = fold base_after 0 texts

abbrev pub settings_of : List (List ℕ) → Option (List Setting)
settings_of texts = settings_from (base_among texts) texts

-- where something says settings, they stand behind the others, and it is told that it does
abbrev pub Adds : Option (List Setting) → List Setting → List Setting → Bool → Type 0
Adds None old new good = good ≡ false
Adds (Some mine) old new good = (good ≡ true) × (new ≡ old ++ mine)

-- each word is a setting, in this order
abbrev pub AreSettings : List (List ℕ) → List Setting → Type 0
AreSettings texts settings = settings_of texts ≡ Some settings

-- number k, from 1, is the first of these words that is no setting
pub record IsFirstBad (texts : List (List ℕ)) (k : ℕ) : Type 0 where
  pub before : List (List ℕ)
  pub text : List ℕ
  pub after : List (List ℕ)
  pub whole : texts ≡ before ++ text ∷ after
  pub number : k ≡ length before + 1
  pub good : IsTrue (is_some (settings_from (base_among texts) before))
  pub bad : settings_in (base_among texts) text ≡ None

-- an error that blames a word blames the first of these that is no setting
abbrev pub IsBadAmong : List (List ℕ) → SettingError → Type 0
IsBadAmong texts error = (k : ℕ) → error ≡ Bad k → IsFirstBad texts k

-- whatever settings words say, what these print or write to files is memory
abbrev pub ArePrintedOfMemory : List (List ℕ) → Type 0
ArePrintedOfMemory texts = (settings : List Setting) → AreSettings texts settings → All PrintsMemory settings
