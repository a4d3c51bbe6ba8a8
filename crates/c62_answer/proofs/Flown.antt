-- The table of a run with everything in flight.
use Rattle.std.proofs.Common.{◌≡◌, ◌^◌, ◌≤◌, ℕ, List, [], ◌++◌, arith}
use Rattle.std.specs.Prelude.{true}
use Rattle.c62_read.specs.Program.{Name}
use Rattle.c62_serial.specs.State.{Machine}
use Rattle.c62_flight.specs.declared.stop.Stop.{Stop}
use Rattle.c62_flight.specs.Text.{Text}
use Rattle.c62_exec.specs.declared.tally.Count.{Count}
use Rattle.c62_exec.specs.Counts.{CountsFlight}
use Rattle.c62_profile.specs.Flights.{cycles_of, flight_table}
use Rattle.c62_profile.proofs.Flown.{counts_sum}
use Rattle.c62_answer.specs.Run.{TellsFlight}

module _ (text : Text) (first limit : ℕ) (opening : Machine) (stop : Stop) (cycles : ℕ) (final : Machine)
    (counts : List Count) where
  -- cycles can be told in thousandths of the whole
  pub few_cycles : CountsFlight text first limit opening stop cycles final counts → cycles ≤ 2 ^ 35
      → cycles_of counts ≤ 1000000000000000
  few_cycles is few = let sum : cycles_of counts ≡ cycles = counts_sum text first limit opening stop cycles final counts
      is in omega arith

  pub flight_told : (labels : List (Name × ℕ)) (table : List ℕ)
      → CountsFlight text first limit opening stop cycles final counts
      → table ≡ [] ++ flight_table labels counts cycles
      → TellsFlight true text labels first limit opening stop cycles final table
  flight_told labels table is same = (counts, is, same)
