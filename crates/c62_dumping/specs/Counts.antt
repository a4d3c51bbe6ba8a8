-- How many bytes go to each file (docs/COMMANDS.md, "Files").
use Rattle.std.specs.Prelude.{ℕ, List, [], ◌∷◌}
use Rattle.std.specs.List.{flat_map}
use Rattle.c62_command.specs.declared.setting.Setting.{Setting as Given}
use Rattle.c62_command.specs.declared.setting.Setting.TheVariants as given
use Rattle.c62_command.specs.CommandLine.{Ask, SerialReport, PacketReport, StandingReport, FlightReport, LoopReport, Reaching, Document}

-- how many bytes a setting writes to a file, where it does
abbrev pub count_in : Given → List ℕ
count_in (given.Dump dump) = dump.count ∷ []
count_in _ = []

-- how many go to each file, in the order of the settings
abbrev pub counts_in : List Given → List ℕ
counts_in settings = flat_map count_in settings

-- the settings of what is asked for, which has some only as a run
abbrev pub settings_asked : Ask → List Given
settings_asked (SerialReport course settings apart) = settings
settings_asked (PacketReport packing course settings) = settings
settings_asked (StandingReport form course settings) = settings
settings_asked (FlightReport course from settings) = settings
settings_asked (LoopReport verbose packing trips apart course settings) = settings
settings_asked (Reaching from ask) = settings_asked ask
settings_asked (Document ask) = settings_asked ask
settings_asked _ = []

abbrev pub counts_asked : Ask → List ℕ
counts_asked ask = counts_in (settings_asked ask)
