-- Memory that settings ask to print (docs/REPORT.md, "Memory that is printed").
use Rattle.std.specs.Prelude.{ℕ, List, []}
use Rattle.std.specs.List.{flat_map}
use Rattle.c62_command.specs.declared.setting.Setting.{Setting as Given}
use Rattle.c62_command.specs.declared.setting.Setting.TheVariants as given
use Rattle.c62_command.specs.Settings.{bytes_in}
use Rattle.c62_serial.specs.State.{Machine}
use Rattle.c62_report.specs.Print.{print_lines}

-- the lines that a setting asks for
abbrev pub printed : Machine → Given → List ℕ
printed machine (given.Print print) = print_lines machine (bytes_in print.size) print.signed print.count print.place
printed machine _ = []

-- those of all settings, in their order
abbrev pub prints : Machine → List Given → List ℕ
prints machine settings = flat_map (printed machine) settings
