-- Memory that settings ask to write to files (docs/COMMANDS.md, "Files").
use Rattle.std.specs.Prelude.{ℕ, ◌%◌, List, [], map}
use Rattle.std.specs.List.{flat_map, range_with_len}
use Rattle.c62_command.specs.declared.setting.Setting.{Setting as Given}
use Rattle.c62_command.specs.declared.setting.Setting.TheVariants as given
use Rattle.c62_serial.specs.State.{Machine, byte_in}

-- the byte at a place; all that words ask for lies below 65,536
abbrev pub byte_at : Machine → ℕ → ℕ
byte_at machine place = byte_in machine (place % 65536)

-- so many bytes from a place on
abbrev pub bytes_at : Machine → (place count : ℕ) → List ℕ
bytes_at machine place count = map (byte_at machine) (range_with_len place count)

-- the bytes that a setting asks for
abbrev pub dumped : Machine → Given → List ℕ
dumped machine (given.Dump dump) = bytes_at machine dump.place dump.count
dumped machine _ = []

-- those of all settings, in their order
abbrev pub dumps : Machine → List Given → List ℕ
dumps machine settings = flat_map (dumped machine) settings
