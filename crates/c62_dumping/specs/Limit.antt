-- What is said of a run that ended by its limit, where something of it is printed or goes to a file (docs/COMMANDS.md, "Files").
use Rattle.std.specs.Prelude.{ℕ, nat_eq, Bool, true, false, ◌||◌, List, [], ◌∷◌, ◌++◌, Option, Some, None, codes, decimal, if◌then◌else◌}
use Rattle.std.specs.List.{list_any, starts_with}
use Rattle.c62_command.specs.declared.setting.Setting.{Setting as Given}
use Rattle.c62_command.specs.declared.setting.Setting.TheVariants as given
use Rattle.c62_command.specs.CommandLine.{Ask, SerialReport, PacketReport, StandingReport, FlightReport, LoopReport, Reaching, Document}
use Rattle.c62_dumping.specs.Counts.{settings_asked}

-- a setting prints memory, or writes it to a file
abbrev pub is_kept : Given → Bool
is_kept (given.Print print) = true
is_kept (given.Dump dump) = true
is_kept _ = false

-- how far a run goes, and in what that is counted
abbrev pub limit_of : Ask → Option (ℕ × List ℕ)
limit_of (SerialReport course settings apart) = Some (course.blocks, codes "blocks")
limit_of (PacketReport packing course settings) = Some (course.blocks, codes "blocks")
limit_of (StandingReport form course settings) = Some (course.blocks, codes "blocks")
limit_of (FlightReport course from settings) = Some (course.cycles, codes "cycles")
limit_of (LoopReport verbose packing trips apart course settings) = Some (course.cycles, codes "cycles")
limit_of (Reaching from ask) = limit_of ask
limit_of (Document ask) = limit_of ask
limit_of _ = None

unfoldable pub was_ended : List ℕ
was_ended = codes "run ended by its limit of "

unfoldable pub of_that_moment : List ℕ
of_that_moment = codes "): what is written is of that moment\n"

-- `run ended by its limit of 1000 blocks (--blocks): what is written is of that moment`
unfoldable pub line_of : (limit : ℕ) (unit : List ℕ) → List ℕ
line_of limit unit = was_ended ++ decimal limit ++ codes " " ++ unit ++ codes " (--" ++ unit ++ of_that_moment

-- nothing of what is no run
abbrev pub limit_line : Option (ℕ × List ℕ) → List ℕ
limit_line None = []
limit_line (Some (limit, unit)) = line_of limit unit

-- what is said of a run that is asked for, if it ends by its limit: nothing where neither its answer nor memory is kept
abbrev pub limit_note : (to_file : Bool) → Ask → List ℕ
limit_note to_file ask = if to_file || list_any is_kept (settings_asked ask) then limit_line (limit_of ask) else []

-- these bytes are somewhere in a text
unfoldable pub contains : (bytes text : List ℕ) → Bool
contains bytes [] = starts_with nat_eq [] bytes
contains bytes (first ∷ text) = starts_with nat_eq (first ∷ text) bytes || contains bytes text

-- a report, or its document, says that the run ended by its limit
abbrev pub ends_by_limit : List ℕ → Bool
ends_by_limit report = contains (codes "\nexit limit\n") report || contains (codes "\"exit\":{\"by\":\"limit\"}") report

-- what is said behind a report
abbrev pub limit_said : (note report : List ℕ) → List ℕ
limit_said note report = if ends_by_limit report then note else []
