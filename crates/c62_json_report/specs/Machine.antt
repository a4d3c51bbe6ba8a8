-- What a document tells of the machine (docs/JSON.md, "The machine").
use Rattle.std.specs.Prelude.{ℕ, ◌+◌, ◌*◌, ◌==◌, List, [], ◌∷◌, ◌++◌, map, slice_index, decimal, codes, if◌then◌else◌}
use Rattle.std.specs.List.{flat_map, range_with_len}
use Rattle.json.specs.Token.{Token, key, string}
use Rattle.c62_op.specs.declared.register.Side.{Side}
use Rattle.c62_op.specs.declared.register.Side.TheVariants.{A, B}
use Rattle.c62_op.specs.Name.{file_letter}
use Rattle.c62_serial.specs.State.{Machine, first_of, byte_in}
use Rattle.c62_serial.specs.Memory.{bytes_from, number_of}
use Rattle.c62_report.specs.Report.{hex, address_text, memory_words}
use Rattle.c62_json.specs.Document.{array, count, object}

-- ---- registers

-- a register with its value: `"A4":12`
abbrev pub register : Machine → Side → ℕ → List Token
register machine side number = key (file_letter side ++ decimal number) ∷ count (slice_index machine.registers (first_of side + number)) ∷ []

-- those of a file, rising
unfoldable pub file : Machine → Side → List Token
file machine side = flat_map (register machine side) (range_with_len 0 16)

unfoldable pub registers : Machine → List Token
registers machine = key (codes "registers") ∷ object (file machine A ++ file machine B)

-- ---- memory

-- the four bytes of word k of memory
abbrev pub bytes_of_word : Machine → ℕ → List ℕ
bytes_of_word machine k = bytes_from (byte_in machine) (4 * k) 4

-- two hexadecimal digits a byte
unfoldable pub digits : List ℕ → List ℕ
digits bytes = flat_map (hex 2) bytes

-- a word of memory that isn't 0, by its address, its lowest byte first: `"0008":"63000000"` is 0x63
unfoldable pub word : Machine → ℕ → List Token
word machine k =
    if number_of (bytes_of_word machine k) == 0 then []
    else key (address_text machine.base (4 * k)) ∷ string (digits (bytes_of_word machine k)) ∷ []

-- the first words of memory, rising
unfoldable pub words : Machine → ℕ → List Token
words machine count = flat_map (word machine) (range_with_len 0 count)

unfoldable pub memory : Machine → List Token
memory machine = key (codes "memory") ∷ object (words machine memory_words)

-- ---- what a run leaves

-- the lines that faulted, rising
unfoldable pub faults : Machine → List Token
faults machine = key (codes "faults") ∷ array (map count machine.faults)

abbrev pub machine_members : Machine → List Token
machine_members machine = registers machine ++ memory machine ++ faults machine
