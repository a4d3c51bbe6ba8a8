-- The report of a run of packets in flight (docs/EXEC.md, "The report").
use Rattle.std.specs.Prelude.{ℕ, List, ◌++◌, decimal, codes}
use Rattle.c62_op.specs.Name.{register_name}
use Rattle.c62_serial.specs.declared.chain.End.TheVariants as chain
use Rattle.c62_serial.specs.State.{Machine}
use Rattle.c62_flight.specs.declared.stop.Stop.{Stop}
use Rattle.c62_flight.specs.declared.stop.Stop.TheVariants.{End, Register, Clash, Branches, Limit}
use Rattle.c62_report.specs.Report.{line, cycles_line, exit_line, machine_lines}

-- the lines of two instructions
abbrev pub lines_named : ℕ → ℕ → List ℕ
lines_named first second = line (codes " " ++ decimal first ++ codes " " ++ decimal second)

-- how the run stopped: as a chain of blocks ends, or at what the machine says nothing of
unfoldable pub stop_line : Stop → List ℕ
stop_line End = exit_line chain.End
stop_line (Register value) = exit_line (chain.Register value)
stop_line Limit = exit_line chain.Limit
stop_line (Clash reg first second) = codes "exit clash " ++ register_name reg ++ lines_named first second
stop_line (Branches first second) = codes "exit branches" ++ lines_named first second

unfoldable pub flight_report : Stop → ℕ → Machine → List ℕ
flight_report stop cycles machine = cycles_line cycles ++ stop_line stop ++ machine_lines machine
