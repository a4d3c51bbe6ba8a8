use Rattle.std.proofs.Common.{take}
use Rattle.c62_row.specs.Issued.{IsRowOf}
use Rattle.c62_packet.specs.Packed.{issued}
use Rattle.c62_rows.proofs.rows.taken.Given as goal

abbrev pub invariant-loop-placed : goal.invariant-loop-placed
invariant-loop-placed l = IsRowOf l.taken 0 (issued (take l.placed-index l.insns))
