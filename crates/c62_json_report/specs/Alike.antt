-- What the text of a report tells of the machine, its document tells, and the other way round (docs/JSON.md, "The machine").
use Rattle.std.specs.Prelude.{◌≡◌, ℕ, ◌<◌, ◌==◌, Bool, false, List, [], ◌∷◌, ◌++◌, map, slice_get, decimal, codes, Option, Some, None, if◌then◌else◌}
use Rattle.std.specs.List.{flat_map}
use Rattle.std.specs.Str.{bytes_eq}
use Rattle.json.specs.Token.{Token, key, string}
use Rattle.c62_serial.specs.State.{Machine, byte_in}
use Rattle.c62_serial.specs.Memory.{bytes_of}
use Rattle.c62_report.specs.Report.{hex, line, value_line, fault_line}
use Rattle.c62_json.specs.Document.{array, count, object}
use Rattle.c62_json_report.specs.Machine.{digits}

-- a register or a word of memory, and the value that it has
pub record Fact : Type 0 where
  pub name : List ℕ
  pub value : ℕ

-- a register has a line where it isn't 0, and a member always
abbrev pub register_line : Fact → List ℕ
register_line fact = value_line fact.name fact.value

abbrev pub register_member : Fact → List Token
register_member fact = key fact.name ∷ count fact.value ∷ []

-- a word has both where it isn't 0: the line its value, and the member its bytes as a store writes them, the lowest first
abbrev pub word_line : Fact → List ℕ
word_line fact = value_line (codes "@" ++ fact.name) fact.value

abbrev pub word_member : Fact → List Token
word_member fact = if fact.value == 0 then [] else key fact.name ∷ string (digits (bytes_of 4 fact.value)) ∷ []

-- these lines and these members tell the same
pub record TellSame (lines : List ℕ) (members : List Token) : Type 0 where
  pub registers : List Fact
  pub words : List Fact
  pub faults : List ℕ
  pub text : lines ≡ flat_map register_line registers ++ flat_map word_line words ++ flat_map fault_line faults
  pub document : members
      ≡ (key (codes "registers") ∷ object (flat_map register_member registers))
      ++ (key (codes "memory") ∷ object (flat_map word_member words))
      ++ (key (codes "faults") ∷ array (map count faults))

-- memory holds bytes
abbrev pub HoldsBytes : Machine → Type 0
HoldsBytes machine = (place : ℕ) → byte_in machine place < 256

-- ---- how a run ended

-- the word for it, and what is told of it: the value of a register, the name of one, and lines
pub record Ending : Type 0 where
  pub what : List ℕ
  pub value : Option ℕ
  pub register : Option (List ℕ)
  pub lines : List ℕ

abbrev pub value_word : Option ℕ → List ℕ
value_word None = []
value_word (Some value) = codes " " ++ hex 8 value

abbrev pub register_word : Option (List ℕ) → List ℕ
register_word None = []
register_word (Some name) = codes " " ++ name

-- `exit clash A5 3 4`
abbrev pub ending_line : Ending → List ℕ
ending_line ending =
    line (codes "exit " ++ ending.what ++ value_word ending.value ++ register_word ending.register
    ++ flat_map (λ number. codes " " ++ decimal number) ending.lines)

abbrev pub value_told : Option ℕ → List Token
value_told None = []
value_told (Some value) = key (codes "value") ∷ count value ∷ []

abbrev pub register_told : Option (List ℕ) → List Token
register_told None = []
register_told (Some name) = key (codes "register") ∷ string name ∷ []

abbrev pub lines_told : List ℕ → List Token
lines_told [] = []
lines_told (number ∷ numbers) = key (codes "lines") ∷ array (map count (number ∷ numbers))

-- `{"by":"clash","register":"A5","lines":[3,4]}`
abbrev pub ending_object : Ending → List Token
ending_object ending =
    object (key (codes "by") ∷ string ending.what ∷ (value_told ending.value ++ register_told ending.register ++ lines_told ending.lines))

-- this line and this object tell of one ending
pub record TellOneEnding (text : List ℕ) (told : List Token) : Type 0 where
  pub ending : Ending
  pub line_is : text ≡ ending_line ending
  pub object_is : told ≡ ending_object ending

-- ---- members by their names

abbrev pub is_named : List ℕ → Token → Bool
is_named name (key other) = bytes_eq other name
is_named name _ = false

-- the value behind the first member of this name
abbrev pub found : List ℕ → List Token → Option Token
found name [] = None
found name (token ∷ tokens) = if is_named name token then slice_get tokens 0 else found name tokens
