-- The command line, as clap reads it.
use Rattle.std.specs.Prelude.{◌≡◌, ◌≢◌, ◌⊎◌, ◌<◌, ◌≤◌, ℕ, pos, ◌^◌, Bool, true, false, ◌&&◌, ◌||◌, nat_lt, length, List, [], ◌∷◌, map, Option, Some, None, unwrap_or, option_map, option_and_then, codes, if◌then◌else◌}
use Rattle.std.specs.Str.{bytes_eq}
use Rattle.std.specs.Str.Parse.{digits_value, signed_digits_value, without_leading_plus}
use Rattle.std.specs.Option.{option_map_or}
use Rattle.clap.specs.Words.{App, Kinds, Row, Rule, Text, all_of, first_of, new_app, new_rule, with_rule, with_subcommand, fault_of, found_of, kind_of, rows_of, subcommand_of}
use Rattle.clap.specs.declared.builder.command.Command.{Command as ClapCommand}
use Rattle.clap.specs.declared.builder.command.Command.TheViews.{out-Command}
use Rattle.clap.specs.declared.parser.matches.ArgMatches.{ArgMatches}
use Rattle.clap.specs.declared.error.Error.{Error}
use Rattle.clap.specs.declared.error.kind.ErrorKind.TheVariants.{OutOfMemory}
use Rattle.clap.specs.declared.builder.action.ArgAction.TheVariants.{SetTrue, Append}
use Rattle.clap.specs.declared.builder.value_parser.ValueParser.TheVariants.{Signed}
use Rattle.c62_op.specs.declared.register.Reg.{Reg}
use Rattle.c62_token.specs.Number.{are_digits}
use Rattle.c62_command.specs.declared.setting.Setting.{Setting}
use Rattle.c62_command.specs.declared.setting.SettingError.{SettingError}
use Rattle.c62_command.specs.declared.setting.SettingError.TheVariants.{Bad, Memory}
use Rattle.c62_command.specs.declared.command.Packing.{Packing}
use Rattle.c62_command.specs.declared.command.Showing.{Showing}
use Rattle.c62_command.specs.declared.command.Course.{Course}
use Rattle.c62_command.specs.declared.flight.FlightCourse.{FlightCourse}
use Rattle.c62_command.specs.declared.command.Command.{Command}
use Rattle.c62_command.specs.declared.command.Rendering.{Rendering}
use Rattle.c62_command.specs.declared.command.Rendering.TheVariants.{Text as InText, Json as InJson}
use Rattle.c62_command.specs.declared.command.Drawing.{Drawing}
use Rattle.c62_command.specs.declared.command.Drawing.TheVariants.{Columns, Page}
use Rattle.c62_command.specs.declared.command.Form.{Form}
use Rattle.c62_command.specs.declared.command.Form.TheVariants.{Listed, Written}
use Rattle.c62_command.specs.declared.command.Exclusion.{Exclusion}
use Rattle.c62_command.specs.declared.command.Exclusion.TheVariants.{Page as InPage, Blocks as InBlocks}
use Rattle.c62_command.specs.declared.command.CommandError.{CommandError}
use Rattle.c62_command.specs.declared.command.CommandError.TheVariants as refused
use Rattle.c62_command.specs.declared.command.Request.{Request}
use Rattle.c62_command.specs.declared.command.Request.TheVariants.{Pack, Show, ShowListing, ShowPackets, Run, Serial, Sim, Exec, Adopt, Check, CheckLoops, PackLoops, ShowLoops, RunLoops}
use Rattle.c62_command.specs.Settings.{settings_of, IsFirstBad}
use Rattle.c62_command.specs.Promises.{IsBadPromise, all_trips, apart_of, trips_of, trips_words}
use Rattle.c62_command.specs.declared.promise.BadPromise.{BadPromise}
use Rattle.c62_command.specs.declared.promise.PromiseError.{PromiseError}
use Rattle.c62_command.specs.declared.promise.PromiseError.TheVariants as no_promise

-- ---- what clap takes

-- no argument of a command is also one of its subcommands
abbrev pub IsLocal : ClapCommand → Type 0
IsLocal command = (out-Command command).has_globals ≡ false

-- `--turns`
abbrev pub turns_rule : Rule
turns_rule = record (new_rule (codes "turns")) { long = Some (codes "turns"); action = Some SetTrue }

-- `--eject N`, from 0 to 1,000
abbrev pub eject_rule : Rule
eject_rule = record (new_rule (codes "eject")) { long = Some (codes "eject"); value_names = 1; parser = Some (Signed (pos 0) (pos 1000)) }

-- `--shortest`
abbrev pub shortest_rule : Rule
shortest_rule = record (new_rule (codes "shortest")) { long = Some (codes "shortest"); action = Some SetTrue }

-- `--search N`, from 0 to 10,000
abbrev pub search_rule : Rule
search_rule = record (new_rule (codes "search")) { long = Some (codes "search"); value_names = 1; parser = Some (Signed (pos 0) (pos 10000)) }

-- `--blocks N`, from 1 to 1,000,000
abbrev pub blocks_rule : Rule
blocks_rule = record (new_rule (codes "blocks")) { long = Some (codes "blocks"); value_names = 1; parser = Some (Signed (pos 1) (pos 1000000)) }

-- `--cycles N`, from 1 to 1,000,000,000
abbrev pub cycles_rule : Rule
cycles_rule = record (new_rule (codes "cycles")) { long = Some (codes "cycles"); value_names = 1; parser = Some (Signed (pos 1) (pos 1000000000)) }

-- `--from NAME`
abbrev pub from_rule : Rule
from_rule = record (new_rule (codes "from")) { long = Some (codes "from"); value_names = 1 }

-- `--alone`
abbrev pub alone_rule : Rule
alone_rule = record (new_rule (codes "alone")) { long = Some (codes "alone"); action = Some SetTrue }

-- `--why`
abbrev pub why_rule : Rule
why_rule = record (new_rule (codes "why")) { long = Some (codes "why"); action = Some SetTrue }

-- `--registers`
abbrev pub registers_rule : Rule
registers_rule = record (new_rule (codes "registers")) { long = Some (codes "registers"); action = Some SetTrue }

-- `--listing`
abbrev pub listing_rule : Rule
listing_rule = record (new_rule (codes "listing")) { long = Some (codes "listing"); action = Some SetTrue }

-- `--packets`
abbrev pub packets_rule : Rule
packets_rule = record (new_rule (codes "packets")) { long = Some (codes "packets"); action = Some SetTrue }

-- `--summary`
abbrev pub summary_rule : Rule
summary_rule = record (new_rule (codes "summary")) { long = Some (codes "summary"); action = Some SetTrue }

-- `--drain`
abbrev pub drain_rule : Rule
drain_rule = record (new_rule (codes "drain")) { long = Some (codes "drain"); action = Some SetTrue }

-- `--profile`
abbrev pub profile_rule : Rule
profile_rule = record (new_rule (codes "profile")) { long = Some (codes "profile"); action = Some SetTrue }

-- `--strict`
abbrev pub strict_rule : Rule
strict_rule = record (new_rule (codes "strict")) { long = Some (codes "strict"); action = Some SetTrue }

-- `--json`
abbrev pub json_rule : Rule
json_rule = record (new_rule (codes "json")) { long = Some (codes "json"); action = Some SetTrue }

-- `--html`
abbrev pub html_rule : Rule
html_rule = record (new_rule (codes "html")) { long = Some (codes "html"); action = Some SetTrue }

-- `[SETTING]..`
abbrev pub settings_rule : Rule
settings_rule = record (new_rule (codes "settings")) { value_names = 1; action = Some Append }

abbrev pub with_packing : App → App
with_packing app = with_rule (with_rule (with_rule (with_rule app turns_rule) eject_rule) shortest_rule) search_rule

abbrev pub with_report : App → App
with_report app = with_rule (with_rule (with_rule (with_rule app profile_rule) strict_rule) json_rule) settings_rule

abbrev pub with_start : App → App
with_start app = with_report (with_rule app blocks_rule)

abbrev pub with_reach : App → App
with_reach app = with_rule (with_rule app from_rule) alone_rule

abbrev pub with_flight : App → App
with_flight app = with_report (with_reach (with_rule app cycles_rule))

-- `[--trips L=N]..`
abbrev pub trips_rule : Rule
trips_rule = record (new_rule (codes "trips")) { long = Some (codes "trips"); value_names = 1; action = Some Append }

-- `--apart REG,REG,..`
abbrev pub apart_rule : Rule
apart_rule = record (new_rule (codes "apart")) { long = Some (codes "apart"); value_names = 1 }

-- what may be promised of loops
abbrev pub with_promises : App → App
with_promises app = with_rule (with_rule app trips_rule) apart_rule

-- `--pipeline`
abbrev pub pipeline_rule : Rule
pipeline_rule = record (new_rule (codes "pipeline")) { long = Some (codes "pipeline"); action = Some SetTrue }

-- `--verbose`
abbrev pub verbose_rule : Rule
verbose_rule = record (new_rule (codes "verbose")) { long = Some (codes "verbose"); action = Some SetTrue }

abbrev pub with_pipeline : App → App
with_pipeline app = with_promises (with_rule app pipeline_rule)

abbrev pub with_told_pipeline : App → App
with_told_pipeline app = with_rule (with_pipeline app) verbose_rule

abbrev pub with_pipelined_run : App → App
with_pipelined_run app = with_rule (with_told_pipeline app) cycles_rule

-- `pack [--turns] [--eject N] [--shortest] [--search N] [--pipeline] [--trips L=N].. [--apart REG,REG,..] [--verbose] [--json]`
abbrev pub pack_app : App
pack_app = with_rule (with_told_pipeline (with_packing (new_app (codes "pack")))) json_rule

abbrev pub with_forms : App → App
with_forms app = with_rule (with_rule app listing_rule) packets_rule

abbrev pub with_renderings : App → App
with_renderings app = with_rule (with_rule app json_rule) html_rule

abbrev pub with_details : App → App
with_details app = with_renderings (with_rule (with_rule (with_rule app why_rule) registers_rule) summary_rule)

-- `show [--turns] [--eject N] [--shortest] [--search N] [--pipeline] [--trips L=N].. [--apart REG,REG,..] [--listing] [--packets] [--why]
-- [--registers] [--summary] [--json] [--html]`
abbrev pub show_app : App
show_app = with_details (with_forms (with_pipeline (with_packing (new_app (codes "show")))))

-- `run [--turns] [--eject N] [--shortest] [--search N] [--pipeline] [--trips L=N].. [--apart REG,REG,..] [--verbose] [--cycles N] [--blocks N]
-- [--profile] [--strict] [--json] [SETTING]..`
abbrev pub run_app : App
run_app = with_start (with_pipelined_run (with_packing (new_app (codes "run"))))

-- `serial [--apart REG,REG,..] [--blocks N] [--profile] [--strict] [--json] [SETTING]..`
abbrev pub serial_app : App
serial_app = with_start (with_rule (new_app (codes "serial")) apart_rule)

-- `sim [--packets] [--blocks N] [--profile] [--strict] [--json] [SETTING]..`
abbrev pub sim_app : App
sim_app = with_start (with_rule (new_app (codes "sim")) packets_rule)

-- `exec [--cycles N] [--from NAME] [--alone] [--profile] [--strict] [--json] [SETTING]..`
abbrev pub exec_app : App
exec_app = with_flight (new_app (codes "exec"))

-- `adopt [--from NAME] [--drain] [--json]`
abbrev pub adopt_app : App
adopt_app = with_rule (with_rule (with_rule (new_app (codes "adopt")) from_rule) drain_rule) json_rule

-- `--loops`
abbrev pub loops_rule : Rule
loops_rule = record (new_rule (codes "loops")) { long = Some (codes "loops"); action = Some SetTrue }

abbrev pub with_loops : App → App
with_loops app = with_promises (with_rule app loops_rule)

-- `check [--packets] [--loops] [--trips L=N].. [--apart REG,REG,..] [--json]`
abbrev pub check_app : App
check_app = with_rule (with_loops (with_rule (new_app (codes "check")) packets_rule)) json_rule

abbrev pub bare_app : App
bare_app = let new = new_app (codes "c62") in record new { top = record new.top { no_binary_name = true; subcommand_required = true } }

-- the subcommands that pack and write what is packed
abbrev pub listing_app : App
listing_app = with_subcommand (with_subcommand bare_app pack_app.top) show_app.top

-- the subcommands that pack
abbrev pub packing_app : App
packing_app = with_subcommand listing_app run_app.top

-- the subcommands that pack or run
abbrev pub running_app : App
running_app = with_subcommand (with_subcommand (with_subcommand packing_app serial_app.top) sim_app.top) exec_app.top

-- the whole command line: exactly one subcommand
abbrev pub tool_app : App
tool_app = with_subcommand (with_subcommand running_app adopt_app.top) check_app.top

-- ---- what was asked for

pub data Ask : Type 0 where
  -- the listing of a text, packed so
  Listing : Packing → Ask
  -- the picture of a text's blocks, packed so
  Picture : Showing → Ask
  -- the picture of a listing's blocks, as they stand
  ListingPicture : Showing → Ask
  -- the picture of the blocks of a text of packets, as they stand
  PacketsPicture : Showing → Ask
  -- the report of a serial run on this course, from a state with these settings; and where accesses from two of these registers touch one
  -- byte in two iterations
  SerialReport : Course → List Setting → (apart : List Reg) → Ask
  -- the report of the same run of the packets of a text, packed so
  PacketReport : Packing → Course → List Setting → Ask
  -- the report of such a run of packets as they stand in a text of this form
  StandingReport : Form → Course → List Setting → Ask
  -- the report of a run of a text of packets on this course, from the row of this label on or the first, from a state with these
  -- settings
  FlightReport : FlightCourse → (from : Option Text) → List Setting → Ask
  -- the listing of a text of packets, with the cycles added that lack in it or without them
  Adoption : (drain : Bool) → Ask
  -- the same of what is taken of a text of packets from this label on
  Reaching : (from : Text) → Ask → Ask
  -- what each block of packets in a text of this form is, held against a serial text
  Verdicts : Form → Ask
  -- what packets are that pipeline the loops of a serial text, where these labels' loops are entered with at least so many trips, and
  -- accesses from two of these registers never touch one byte in two iterations
  LoopVerdicts : (trips : List (Text × ℕ)) → (apart : List Reg) → Ask
  -- the packets of a text, packed so, with its loops pipelined where as much is promised of these; and what became of each loop
  LoopListing : (verbose : Bool) → Packing → (trips : List (Text × ℕ)) → (apart : List Reg) → Ask
  -- the picture of the loops of such packets, drawn so
  LoopPicture : Drawing → Packing → (trips : List (Text × ℕ)) → (apart : List Reg) → Ask
  -- the report of a run of such packets on this course, from a state with these settings; and what became of each loop
  LoopReport : (verbose : Bool) → Packing → (trips : List (Text × ℕ)) → (apart : List Reg) → FlightCourse → List Setting → Ask
  -- what such an answer tells, as a document
  Document : Ask → Ask

-- where a label is named, what is asked of that which is taken from there on
abbrev pub reaching : Option Text → Ask → Ask
reaching None ask = ask
reaching (Some name) ask = Reaching name ask

-- a run of the part that it begins with and those that this one reaches, or of the whole text
abbrev pub flight_asked : (alone : Bool) → FlightCourse → (from : Option Text) → List Setting → Ask
flight_asked alone course from settings = if alone then reaching from (FlightReport course from settings) else FlightReport course from settings

abbrev pub ask_of : Request → Ask
ask_of (Pack packing) = Listing packing
ask_of (Show showing) = Picture showing
ask_of (ShowListing showing) = ListingPicture showing
ask_of (ShowPackets showing) = PacketsPicture showing
ask_of (Run packing start) = PacketReport packing start.course start.settings.items
ask_of (Serial start apart) = SerialReport start.course start.settings.items apart.items
ask_of (Sim form start) = StandingReport form start.course start.settings.items
ask_of (Exec start) = flight_asked start.alone start.course (option_map (λ name. name.items) start.from) start.settings.items
ask_of (Adopt adopting) = reaching (option_map (λ name. name.items) adopting.from) (Adoption adopting.drain)
ask_of (Check form) = Verdicts form
ask_of (CheckLoops promises) = LoopVerdicts (map trips_of promises.trips.items) promises.apart.items
ask_of (PackLoops looping) = LoopListing looping.verbose looping.packing (map trips_of looping.promises.trips.items) looping.promises.apart.items
ask_of (ShowLoops looping drawing) = LoopPicture drawing looping.packing (map trips_of looping.promises.trips.items) looping.promises.apart.items
ask_of (RunLoops looping flight) =
    LoopReport looping.verbose looping.packing (map trips_of looping.promises.trips.items) looping.promises.apart.items flight.course
    flight.settings.items

-- what is asked for, told so
abbrev pub rendered : Rendering → Ask → Ask
rendered InText ask = ask
rendered InJson ask = Document ask

-- what a command asks for
abbrev pub ask_told : Command → Ask
ask_told command = rendered command.rendering (ask_of command.request)

-- a flag was set
abbrev pub is_set : Text → List Row → Bool
is_set flag rows = option_map_or (λ t. bytes_eq t (codes "true")) (first_of flag rows) false

-- a number of so many bits in decimal, with or without a `+` in front
abbrev pub number_written : ℕ → Text → Option ℕ
number_written bits text =
    let digits = without_leading_plus text in
    if nat_lt 0 (length digits) && are_digits 10 digits && nat_lt (digits_value 10 digits) (2 ^ bits) then Some (digits_value 10 digits)
    else None

-- the number behind this option, or this one where none is given
abbrev pub number_of : ℕ → Text → ℕ → List Row → ℕ
number_of bits option default rows = unwrap_or (option_and_then (number_written bits) (first_of option rows)) default

-- the limit of blocks: 1,000 where none is given
abbrev pub blocks_of : List Row → ℕ
blocks_of rows = number_of 32 (codes "blocks") 1000 rows

-- the limit of cycles: 1,000,000 where none is given
abbrev pub cycles_of : List Row → ℕ
cycles_of rows = number_of 32 (codes "cycles") 1000000 rows

-- how many ejections a block may have: none where nothing is given
abbrev pub budget_of : List Row → ℕ
budget_of rows = number_of 16 (codes "eject") 0 rows

-- by how many choices a block's schedule is searched for: none where nothing is given
abbrev pub choices_of : List Row → ℕ
choices_of rows = number_of 16 (codes "search") 0 rows

-- the shortest schedules are asked for, by themselves or by a search
abbrev pub asks_shortest : List Row → Bool
asks_shortest rows = option_map_or (λ _. true) (first_of (codes "search") rows) (is_set (codes "shortest") rows)

abbrev pub packing_of : List Row → Packing
packing_of rows = record {
  turns = is_set (codes "turns") rows;
  budget = budget_of rows;
  shortest = asks_shortest rows;
  choices = choices_of rows;
}

-- a page is asked for
abbrev pub is_page : List Row → Bool
is_page rows = is_set (codes "html") rows

abbrev pub drawing_of : List Row → Drawing
drawing_of rows = if is_page rows then Page else Columns

-- a page tells why, and of the registers, without being asked
abbrev pub showing_of : List Row → Showing
showing_of rows = record {
  packing = packing_of rows;
  why = is_set (codes "why") rows || is_page rows;
  registers = is_set (codes "registers") rows || is_page rows;
  summary = is_set (codes "summary") rows;
  page = is_page rows;
}

-- which picture is asked for: of serial text the packets are shown, and of other texts the schedule that stands there
abbrev pub show_asked : List Row → Ask
show_asked rows =
    if is_set (codes "listing") rows then ListingPicture (showing_of rows)
    else (if is_set (codes "packets") rows then PacketsPicture (showing_of rows) else Picture (showing_of rows))

-- how packets are written that are read in place of a listing
abbrev pub form_of : List Row → Form
form_of rows = if is_set (codes "packets") rows then Written else Listed

abbrev pub course_of : List Row → Course
course_of rows = record { blocks = blocks_of rows; profile = is_set (codes "profile") rows; strict = is_set (codes "strict") rows }

abbrev pub flight_course_of : List Row → FlightCourse
flight_course_of rows = record { cycles = cycles_of rows; profile = is_set (codes "profile") rows; strict = is_set (codes "strict") rows }

-- by turns, without ejections, and the schedules that these lead to
abbrev pub plain_packing : Packing
plain_packing = record { turns = true; budget = 0; shortest = false; choices = 0 }

-- the words that are to be settings
abbrev pub setting_words : List Row → List Text
setting_words rows = unwrap_or (all_of (codes "settings") rows) []

-- what clap found for the arguments of a command
abbrev pub found_rows : ArgMatches → List Row
found_rows matches = rows_of (found_of matches)

-- the words among that which are to be settings
abbrev pub words_of : ArgMatches → List Text
words_of matches = setting_words (found_rows matches)

-- a subcommand by its name, with what was found for its arguments
abbrev pub named_rows : Text → ArgMatches → Option (Text × List Row)
named_rows name matches = Some (name, found_rows matches)

-- which report a subcommand asks for, with these settings
abbrev pub report_asked : Text → List Row → List Setting → Ask
report_asked name rows settings =
    if bytes_eq name (codes "run") then PacketReport (packing_of rows) (course_of rows) settings
    else (if bytes_eq name (codes "sim") then StandingReport (form_of rows) (course_of rows) settings
    else flight_asked (is_set (codes "alone") rows) (flight_course_of rows) (first_of (codes "from") rows) settings)

-- the report of a serial run, where the promises are some
abbrev pub serial_asked : List Row → Option (List (Text × ℕ)) → Option (List Reg) → Option Ask
serial_asked rows (Some trips) (Some apart) = option_map (λ settings. SerialReport (course_of rows) settings apart) (settings_of (setting_words rows))
serial_asked rows _ _ = None

-- what a check of loops asks for, where the promises are some
abbrev pub loops_asked : Option (List (Text × ℕ)) → Option (List Reg) → Option Ask
loops_asked (Some trips) (Some apart) = Some (LoopVerdicts trips apart)
loops_asked _ _ = None

-- which check is asked for: of the loops of a text, or of its blocks
abbrev pub check_asked : List Row → Option Ask
check_asked rows =
    if is_set (codes "loops") rows then loops_asked (all_trips (trips_words rows)) (apart_of rows)
    else Some (Verdicts (form_of rows))

-- which packets with pipelined loops are asked for, their picture or the report of their run, where so much is promised
abbrev pub pipelined_asked : Text → List Row → (trips : List (Text × ℕ)) → (apart : List Reg) → Option Ask
pipelined_asked name rows trips apart =
    if bytes_eq name (codes "pack") then Some (LoopListing (is_set (codes "verbose") rows) (packing_of rows) trips apart)
    else (if bytes_eq name (codes "show") then Some (LoopPicture (drawing_of rows) (packing_of rows) trips apart)
    else option_map (LoopReport (is_set (codes "verbose") rows) (packing_of rows) trips apart (flight_course_of rows)) (settings_of (setting_words rows)))

-- the same where the promises are some
abbrev pub promised_asked : Text → List Row → Option (List (Text × ℕ)) → Option (List Reg) → Option Ask
promised_asked name rows (Some trips) (Some apart) = pipelined_asked name rows trips apart
promised_asked name rows _ _ = None

-- what a subcommand asks for whose loops aren't pipelined
abbrev pub plain_asked : Text → List Row → Option Ask
plain_asked name rows =
    if bytes_eq name (codes "pack") then Some (Listing (packing_of rows))
    else (if bytes_eq name (codes "show") then Some (show_asked rows)
    else (if bytes_eq name (codes "serial") then serial_asked rows (all_trips (trips_words rows)) (apart_of rows)
    else option_map (report_asked name rows) (settings_of (setting_words rows))))

-- what the subcommand's name and what was found for its arguments ask for, where the settings and promises are good, whatever it is told in
abbrev pub what_in : Option (Text × List Row) → Option Ask
what_in None = Some (Listing plain_packing)
what_in (Some (name, rows)) =
    if bytes_eq name (codes "check") then check_asked rows
    else (if bytes_eq name (codes "adopt") then Some (reaching (first_of (codes "from") rows) (Adoption (is_set (codes "drain") rows)))
    else (if is_set (codes "pipeline") rows then promised_asked name rows (all_trips (trips_words rows)) (apart_of rows)
    else plain_asked name rows))

-- how it is told, by the options of a subcommand
abbrev pub rendering_of : List Row → Rendering
rendering_of rows = if is_set (codes "json") rows then InJson else InText

abbrev pub rendering_in : Option (Text × List Row) → Rendering
rendering_in None = InText
rendering_in (Some (name, rows)) = rendering_of rows

-- two ways are named to tell the same: a page, and a document or the heads alone
abbrev pub names_two_ways : List Row → Bool
names_two_ways rows = is_page rows && (is_set (codes "json") rows || is_set (codes "summary") rows)

-- a limit of blocks is named
abbrev pub limits_blocks : List Row → Bool
limits_blocks rows = option_map_or (λ _. true) (first_of (codes "blocks") rows) false

-- which options exclude each other: two ways to tell the same, or pipelined loops and a limit of blocks
abbrev pub exclusion_of : List Row → Option Exclusion
exclusion_of rows =
    if names_two_ways rows then Some InPage
    else (if is_set (codes "pipeline") rows && limits_blocks rows then Some InBlocks
    else None)

abbrev pub exclusion_in : Option (Text × List Row) → Option Exclusion
exclusion_in None = None
exclusion_in (Some (name, rows)) = exclusion_of rows

-- what is asked for where no options exclude each other
abbrev pub unless_excluded : Option Exclusion → Option Ask → Option Ask
unless_excluded None ask = ask
unless_excluded (Some exclusion) ask = None

-- what is asked for, and how it is told: nothing where options exclude each other
unfoldable pub ask_in : Option (Text × List Row) → Option Ask
ask_in found = unless_excluded (exclusion_in found) (option_map (rendered (rendering_in found)) (what_in found))

abbrev pub unless_fault : Kinds → Option Ask → Option Ask
unless_fault [] ask = ask
unless_fault (kind ∷ kinds) ask = None

-- What the words ask for: no words ask for `pack --turns`. None where clap doesn't take them, or a setting or a
-- promise is bad.
unfoldable pub asked : List Text → Option Ask
asked [] = Some (Listing plain_packing)
asked (word ∷ words) = unless_fault (fault_of tool_app (word ∷ words)) (ask_in (subcommand_of tool_app (word ∷ words)))

-- the subcommand of this name takes settings
abbrev pub TakesSettings : Text → Type 0
TakesSettings name =
    (bytes_eq name (codes "pack") ≡ false) × (bytes_eq name (codes "show") ≡ false) × (bytes_eq name (codes "adopt") ≡ false)
    × (bytes_eq name (codes "check") ≡ false)

-- setting k of the subcommand, from 1, is its first bad one
abbrev pub HasFirstBad : Option (Text × List Row) → ℕ → Type 0
HasFirstBad None k = ⊥
HasFirstBad (Some (name, rows)) k = TakesSettings name × IsFirstBad (setting_words rows) k

-- an error that blames a setting blames the first bad one of the subcommand
abbrev pub IsBadIn : Option (Text × List Row) → SettingError → Type 0
IsBadIn found error = (k : ℕ) → error ≡ Bad k → HasFirstBad found k

-- clap takes the words, and setting k is the first bad one
abbrev pub HasBadSetting : List Text → ℕ → Type 0
HasBadSetting words k = (0 < length words) × (fault_of tool_app words ≡ []) × HasFirstBad (subcommand_of tool_app words) k

-- the subcommand is a serial run
abbrev pub takes_apart : Text → Bool
takes_apart name =
    if bytes_eq name (codes "pack") then false else (if bytes_eq name (codes "show") then false else bytes_eq name (codes "serial"))

-- the subcommand is a check of loops, pipelines them, or is a serial run
abbrev pub takes_promises : Text → List Row → Bool
takes_promises name rows =
    if bytes_eq name (codes "check") then is_set (codes "loops") rows
    else (if bytes_eq name (codes "adopt") then false else (if is_set (codes "pipeline") rows then true else takes_apart name))

-- so it is, and one of its promises is bad
pub record HasBadPromiseAmong (name : Text) (rows : List Row) (bad : BadPromise) : Type 0 where
  pub takes : takes_promises name rows ≡ true
  pub why : IsBadPromise rows bad

abbrev pub HasBadPromiseIn : Option (Text × List Row) → BadPromise → Type 0
HasBadPromiseIn None bad = ⊥
HasBadPromiseIn (Some (name, rows)) bad = HasBadPromiseAmong name rows bad

-- clap takes the words, and this promise is bad
abbrev pub HasBadPromise : List Text → BadPromise → Type 0
HasBadPromise words bad = (0 < length words) × (fault_of tool_app words ≡ []) × HasBadPromiseIn (subcommand_of tool_app words) bad

-- clap takes the words, and these options exclude each other
abbrev pub HasExclusion : List Text → Exclusion → Type 0
HasExclusion words exclusion = (0 < length words) × (fault_of tool_app words ≡ []) × (exclusion_in (subcommand_of tool_app words) ≡ Some exclusion)

-- an error of clap that is no want of memory says that clap doesn't take the words
abbrev pub IsBlame : List Text → Error → Type 0
IsBlame words error = kind_of error ≢ OutOfMemory → fault_of tool_app words ≢ []

-- there are words, and clap doesn't take them
abbrev pub IsUnknown : List Text → Type 0
IsUnknown words = (0 < length words) × (fault_of tool_app words ≢ [])

-- why words ask for nothing: clap doesn't take them, options exclude each other, or a setting or a promise is bad, unless memory ran out
abbrev pub IsRefusal : CommandError → List Text → Type 0
IsRefusal (refused.Words _) words = IsUnknown words
IsRefusal (refused.Setting k) words = HasBadSetting words k
IsRefusal (refused.Promise bad) words = HasBadPromise words bad
IsRefusal (refused.Excluded exclusion) words = HasExclusion words exclusion
IsRefusal refused.Memory words = Unit {0}

-- what a parse that failed is
abbrev pub IsWordsError : Error → CommandError → Type 0
IsWordsError clap_error error =
    ((kind_of clap_error ≡ OutOfMemory) × (error ≡ refused.Memory)) ⊎ ((kind_of clap_error ≢ OutOfMemory) × (error ≡ refused.Words clap_error))

-- the same of a subcommand by its name, with what was found for its arguments
abbrev pub IsRefusalIn : Option (Text × List Row) → CommandError → Type 0
IsRefusalIn found (refused.Words _) = ⊥
IsRefusalIn found (refused.Setting k) = HasFirstBad found k
IsRefusalIn found (refused.Promise bad) = HasBadPromiseIn found bad
IsRefusalIn found (refused.Excluded exclusion) = exclusion_in found ≡ Some exclusion
IsRefusalIn found refused.Memory = Unit {0}

-- why a check asks for nothing: only one of loops has promises
abbrev pub IsLoopsError : List Row → PromiseError → Type 0
IsLoopsError rows no_promise.Memory = Unit {0}
IsLoopsError rows (no_promise.Bad bad) = (is_set (codes "loops") rows ≡ true) × IsBadPromise rows bad

-- what words that are no promises are
abbrev pub IsPromiseError : PromiseError → CommandError → Type 0
IsPromiseError no_promise.Memory error = error ≡ refused.Memory
IsPromiseError (no_promise.Bad bad) error = error ≡ refused.Promise bad

-- what words that are no settings are
abbrev pub IsSettingError : SettingError → CommandError → Type 0
IsSettingError Memory error = error ≡ refused.Memory
IsSettingError (Bad k) error = error ≡ refused.Setting k

-- ---- numbers that are given

-- the number that stands for a value that may be given: that which it writes, between these two, or this one
abbrev pub IsNumberOf : ℕ → ℕ → ℕ → Option Text → ℕ → Type 0
IsNumberOf least most default None number = number ≡ default
IsNumberOf least most default (Some text) number = (signed_digits_value 10 text ≡ pos number) × (least ≤ number) × (number ≤ most)

-- the numbers that a subcommand's options stand for
pub record AreLimits (rows : List Row) : Type 0 where
  -- behind `--blocks` 1 to 1,000,000, and 1,000 without it
  pub blocks : IsNumberOf 1 1000000 1000 (first_of (codes "blocks") rows) (blocks_of rows)
  -- behind `--cycles` 1 to 1,000,000,000, and 1,000,000 without it
  pub cycles : IsNumberOf 1 1000000000 1000000 (first_of (codes "cycles") rows) (cycles_of rows)
  -- behind `--eject` 0 to 1,000, and 0 without it
  pub eject : IsNumberOf 0 1000 0 (first_of (codes "eject") rows) (budget_of rows)
  -- behind `--search` 0 to 10,000, and 0 without it
  pub search : IsNumberOf 0 10000 0 (first_of (codes "search") rows) (choices_of rows)

-- Where clap takes the words, no number is made up.
abbrev pub TakesLimits : List Text → Type 0
TakesLimits words = (name : Text) (rows : List Row) → fault_of tool_app words ≡ [] → subcommand_of tool_app words ≡ Some (name, rows) → AreLimits rows
