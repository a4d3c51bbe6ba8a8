-- The documents of runs (docs/JSON.md, "Runs").
use Rattle.std.specs.Prelude.{◌≡◌, ℕ, ◌≤◌, List, [], ◌∷◌, ◌++◌, length, codes, Option, IfSome}
use Rattle.json.specs.Token.{Token, key}
use Rattle.c62_read.specs.Block.{Serial}
use Rattle.c62_read.specs.Program.{Name}
use Rattle.c62_serial.specs.State.{Machine}
use Rattle.c62_serial.specs.declared.chain.Chain.{Chain}
use Rattle.c62_packet.specs.Packed.{Packed}
use Rattle.c62_flight.specs.declared.stop.Stop.{Stop}
use Rattle.c62_exec.specs.declared.tally.Count.{Count}
use Rattle.c62_command.specs.declared.setting.Setting.{Setting as Given}
use Rattle.c62_profile.specs.declared.tally.Tally.{Tally}
use Rattle.c62_profile.specs.Flights.{cycles_of}
use Rattle.c62_json.specs.Document.{count}
use Rattle.c62_json_report.specs.Exit.{exit, stop}
use Rattle.c62_json_report.specs.Machine.{machine_members}
use Rattle.c62_json_report.specs.Prints.{prints}
use Rattle.c62_json_report.specs.Profile.{asked, flight_rows, packet_rows, serial_rows}

-- a member whose value is a number
abbrev pub number : List ℕ → ℕ → List Token
number name value = key name ∷ count value ∷ []

-- how the run ended
abbrev pub ended : List Token → List Token
ended how = key (codes "exit") ∷ how

-- what the machine holds, and what of it is printed
unfoldable pub left_by : Machine → List Given → List Token
left_by machine settings = machine_members machine ++ key (codes "prints") ∷ prints machine settings

abbrev pub profile : List Token → List Token
profile table = key (codes "profile") ∷ table

-- ---- serial runs

unfoldable pub serial_members : List Serial → Chain → Machine → List Given → Option Tally → List Token
serial_members program chain machine settings tally =
    number (codes "blocks") chain.blocks ++ ended (exit chain.stop) ++ left_by machine settings ++ profile (asked (serial_rows program) tally)

-- ---- runs of packets

-- as of a serial run, with the cycles behind the blocks
unfoldable pub packet_members : List Packed → Chain → (cycles : ℕ) → Machine → List Given → Option Tally → List Token
packet_members packets chain cycles machine settings tally =
    number (codes "blocks") chain.blocks ++ number (codes "cycles") cycles ++ ended (exit chain.stop) ++ left_by machine settings
    ++ profile (asked (packet_rows packets) tally)

-- a tally has the visits of so many blocks, one each
abbrev pub OneEach : ℕ → Option Tally → Type 0
OneEach blocks tally = IfSome tally (λ counted. length counted.visits.items ≡ blocks)

-- ---- runs with everything in flight

-- without blocks
unfoldable pub flight_members : List (Name × ℕ) → Stop → (cycles : ℕ) → Machine → List Given → Option (List Count) → List Token
flight_members labels stopped cycles machine settings counts =
    number (codes "cycles") cycles ++ ended (stop stopped) ++ left_by machine settings ++ profile (asked (flight_rows labels cycles) counts)

-- so few cycles were counted that their thousandths have 64 bits
abbrev pub FewCycles : Option (List Count) → Type 0
FewCycles counts = IfSome counts (λ counted. cycles_of counted ≤ 1000000000000000)
