-- Documents of runs, from what each step of a run gave.
use Rattle.std.proofs.Common.{◌≡◌, ℕ, Bool, true, false, List, [], ◌++◌, Option, Some, None, refl}
use Rattle.c62_read.specs.Block.{Serial}
use Rattle.c62_packet.specs.Packed.{Packed}
use Rattle.c62_answer.specs.declared.outcome.Outcome.{Outcome}
use Rattle.c62_answer.specs.Run.{IsCounted, IsOpening, TellsFlight, TellsOfFlight, TellsOfPackets, TellsOfRun}
use Rattle.c62_answer.specs.Run.{TellsPackets, TellsSerial, is_flight_limit, is_limit, outcome_run}
use Rattle.c62_command.specs.declared.setting.Setting.{Setting as Given}
use Rattle.c62_command.specs.declared.command.Course.{Course}
use Rattle.c62_command.specs.declared.flight.FlightCourse.{FlightCourse}
use Rattle.c62_read.specs.Program.{Name as Label}
use Rattle.c62_serial.specs.State.{Machine}
use Rattle.c62_serial.specs.Chain.{RunsProgram}
use Rattle.c62_serial.specs.declared.chain.Chain.{Chain}
use Rattle.c62_pipe.specs.Chain.{RunsPackets}
use Rattle.c62_flight.specs.declared.stop.Stop.{Stop}
use Rattle.c62_flight.specs.Text.{Text as FlightText}
use Rattle.c62_flight.specs.Flight.{Flies}
use Rattle.c62_exec.specs.declared.tally.Count.{Count}
use Rattle.c62_exec.specs.Counts.{CountsFlight}
use Rattle.c62_profile.specs.declared.tally.Tally.{Tally}
use Rattle.c62_profile.specs.Visits.{CountsPackets, CountsProgram}
use Rattle.c62_profile.specs.Table.{packet_table, serial_table}
use Rattle.c62_profile.specs.Flights.{flight_table}
use Rattle.c62_printing.specs.Printing.{prints}
use Rattle.c62_printing.specs.Dumping.{dumps}
use Rattle.c62_report.specs.Report.{packet_report, serial_report}
use Rattle.c62_report.specs.Flight.{flight_report}
use Rattle.c62_answer.specs.Run.{flight_document, packet_document, serial_document}

-- ---- runs

module _ (program : List Serial) (settings : List Given) (course : Course) (outcome : Outcome) (opening final : Machine)
    (chain : Chain) (counted : Option Tally) (answer : List ℕ) where
  counted_table : (profile : Bool) (counts : Option Tally)
      → IsCounted profile (CountsProgram program opening course.blocks chain final) counts
      → (table : List ℕ) × TellsSerial profile program opening course.blocks chain final table
  counted_table false counts is = ([], refl)
  counted_table true None is = absurd is
  counted_table true (Some tally) is = (serial_table program tally, (tally, is, refl))

  -- a serial run
  pub serial_told : IsOpening settings opening → RunsProgram program opening course.blocks chain final
      → IsCounted course.profile (CountsProgram program opening course.blocks chain final) counted
      → answer ≡ serial_document program chain final settings counted ++ dumps final settings
      → outcome ≡ outcome_run course.strict (is_limit chain.stop) final.faults
      → TellsOfRun program settings course outcome answer
  serial_told begin run is said ends = let table = counted_table course.profile counted is in (
    serial_report chain final ++ prints final settings ++ table.0 ++ dumps final settings,
    record {
      opening = opening;
      begin = begin;
      chain = chain;
      final = final;
      run = run;
      table = table.0;
      told = table.1;
      report = refl;
      ends = ends;
    },
    record { counted = counted; is = is; document = said },
  )

module _ (command : List ℕ) (packets : List Packed) (settings : List Given) (course : Course) (outcome : Outcome)
    (opening final : Machine) (chain : Chain) (cycles : ℕ) (counted : Option Tally) (answer : List ℕ) where
  packets_table : (profile : Bool) (counts : Option Tally)
      → IsCounted profile (CountsPackets packets opening course.blocks chain final) counts
      → (table : List ℕ) × TellsPackets profile packets opening course.blocks chain final table
  packets_table false counts is = ([], refl)
  packets_table true None is = absurd is
  packets_table true (Some tally) is = (packet_table packets tally, (tally, is, refl))

  -- a run of packets
  pub packets_told : IsOpening settings opening → RunsPackets packets opening course.blocks chain cycles final
      → IsCounted course.profile (CountsPackets packets opening course.blocks chain final) counted
      → answer ≡ packet_document command packets chain cycles final settings counted ++ dumps final settings
      → outcome ≡ outcome_run course.strict (is_limit chain.stop) final.faults
      → TellsOfPackets command packets settings course outcome answer
  packets_told begin run is said ends = let table = packets_table course.profile counted is in (
    packet_report chain cycles final ++ prints final settings ++ table.0 ++ dumps final settings,
    record {
      opening = opening;
      begin = begin;
      chain = chain;
      cycles = cycles;
      final = final;
      run = run;
      table = table.0;
      told = table.1;
      report = refl;
      ends = ends;
    },
    record { counted = counted; is = is; document = said },
  )

module _ (command : List ℕ) (flying : FlightText) (labels : List (Label × ℕ)) (first : ℕ) (settings : List Given)
    (course : FlightCourse) (outcome : Outcome) (opening final : Machine) (stop : Stop) (cycles : ℕ)
    (counted : Option (List Count)) (answer : List ℕ) where
  flight_table_told : (profile : Bool) (counts : Option (List Count))
      → IsCounted profile (CountsFlight flying first course.cycles opening stop cycles final) counts
      → (table : List ℕ) × TellsFlight profile flying labels first course.cycles opening stop cycles final table
  flight_table_told false counts is = ([], refl)
  flight_table_told true None is = absurd is
  flight_table_told true (Some counts) is = (flight_table labels counts cycles, (counts, is, refl))

  -- a run with everything in flight
  pub flight_told : IsOpening settings opening → Flies flying first course.cycles opening stop cycles final
      → IsCounted course.profile (CountsFlight flying first course.cycles opening stop cycles final) counted
      → answer ≡ flight_document command labels stop cycles final settings counted ++ dumps final settings
      → outcome ≡ outcome_run course.strict (is_flight_limit stop) final.faults
      → TellsOfFlight command flying labels first settings course outcome answer
  flight_told begin flies is said ends = let table = flight_table_told course.profile counted is in (
    flight_report stop cycles final ++ prints final settings ++ table.0 ++ dumps final settings,
    record {
      opening = opening;
      begin = begin;
      stop = stop;
      cycles = cycles;
      final = final;
      flies = flies;
      table = table.0;
      told = table.1;
      report = refl;
      ends = ends;
    },
    record { counted = counted; is = is; document = said },
  )
