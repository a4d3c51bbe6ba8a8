-- The report of a run (docs/REPORT.md, "The report").
use Rattle.std.specs.Prelude.{ℕ, zero, suc, ◌+◌, ◌*◌, ◌/◌, ◌%◌, nat_lt, ◌==◌, List, [], ◌∷◌, ◌++◌, slice_index, decimal, codes, if◌then◌else◌}
use Rattle.std.specs.List.{flat_map, range_with_len}
use Rattle.c62_op.specs.declared.register.Side.{Side}
use Rattle.c62_op.specs.declared.register.Side.TheVariants.{A, B}
use Rattle.c62_op.specs.Word.{sum}
use Rattle.c62_op.specs.Name.{file_letter}
use Rattle.c62_serial.specs.declared.state.TheConstants.{MEMORY_BYTES}
use Rattle.c62_serial.specs.declared.chain.Chain.{Chain}
use Rattle.c62_serial.specs.declared.chain.End.{End}
use Rattle.c62_serial.specs.declared.chain.End.TheVariants.{End as FellThrough, Register as ToRegister, Limit}
use Rattle.c62_serial.specs.State.{Machine, first_of, byte_in}
use Rattle.c62_serial.specs.Memory.{bytes_from, number_of}

-- a hexadecimal digit, in lower case
abbrev pub hex_digit : ℕ → ℕ
hex_digit digit = if nat_lt digit 10 then 48 + digit else 87 + digit

-- the low hexadecimal digits of a value, so many of them
unfoldable pub hex : ℕ → ℕ → List ℕ
hex zero value = []
hex (suc more) value = hex more (value / 16) ++ hex_digit (value % 16) ∷ []

-- a line that ends
abbrev pub line : List ℕ → List ℕ
line text = text ++ codes "\n"

-- `NAME V`, where the value isn't 0
unfoldable pub value_line : List ℕ → ℕ → List ℕ
value_line name value = if value == 0 then [] else line (name ++ codes " " ++ hex 8 value)

-- the registers of a file, rising
abbrev pub register_line : Machine → Side → ℕ → List ℕ
register_line machine side number = value_line (file_letter side ++ decimal number) (slice_index machine.registers (first_of side + number))

unfoldable pub file_lines : Machine → Side → List ℕ
file_lines machine side = flat_map (register_line machine side) (range_with_len 0 16)

-- the address of a place in memory: four digits where memory begins at 0, else eight
abbrev pub address_text : (base place : ℕ) → List ℕ
address_text base place = hex (if base == 0 then 4 else 8) (sum base place)

-- word k of memory, little endian: `@AAAA V`
abbrev pub word_line : Machine → ℕ → List ℕ
word_line machine k = value_line (codes "@" ++ address_text machine.base (4 * k)) (number_of (bytes_from (byte_in machine) (4 * k) 4))

-- the first words of memory, rising
unfoldable pub word_lines : Machine → ℕ → List ℕ
word_lines machine count = flat_map (word_line machine) (range_with_len 0 count)

abbrev pub memory_words : ℕ
memory_words = MEMORY_BYTES / 4

abbrev pub fault_line : ℕ → List ℕ
fault_line number = line (codes "fault " ++ decimal number)

unfoldable pub exit_line : End → List ℕ
exit_line FellThrough = line (codes "exit end")
exit_line (ToRegister value) = line (codes "exit register " ++ hex 8 value)
exit_line Limit = line (codes "exit limit")

-- what the machine holds at the end: registers and words of memory that aren't 0, and the lines that faulted
unfoldable pub machine_lines : Machine → List ℕ
machine_lines machine =
    file_lines machine A ++ file_lines machine B ++ word_lines machine memory_words ++ flat_map fault_line machine.faults

abbrev pub blocks_line : Chain → List ℕ
blocks_line chain = line (codes "blocks " ++ decimal chain.blocks)

abbrev pub cycles_line : ℕ → List ℕ
cycles_line cycles = line (codes "cycles " ++ decimal cycles)

-- the report of a serial run
unfoldable pub serial_report : Chain → Machine → List ℕ
serial_report chain machine = blocks_line chain ++ exit_line chain.stop ++ machine_lines machine

-- the report of a run of packets: the same, with a line for the cycles behind the first
unfoldable pub packet_report : Chain → ℕ → Machine → List ℕ
packet_report chain cycles machine = blocks_line chain ++ cycles_line cycles ++ exit_line chain.stop ++ machine_lines machine
