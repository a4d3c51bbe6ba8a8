use Rattle.std.proofs.Common.{drop}
use Rattle.c62_traced.specs.Row.{packet_log}
use Rattle.c62_traced.proofs.Passing.{TellsRest}
use Rattle.c62_traced.proofs.row.tell_packet.Given as goal

abbrev pub invariant-loop-placed : goal.invariant-loop-placed
invariant-loop-placed g l =
    TellsRest g.T.Watch.tells l.fn.watch l.watch (packet_log l.state.machine l.cycle (drop l.placed-index l.insns))
    (packet_log l.state.machine l.cycle l.insns)
