use Rattle.std.proofs.Common.{◌≡◌, ◌++◌, drop}
use Rattle.std.specs.List.{flat_map}
use Rattle.c62_live.specs.Rows.{live_reg}
use Rattle.c62_live.proofs.rows.live_row.Given as goal

abbrev pub invariant-loop-each : goal.invariant-loop-each
invariant-loop-each l = l.regs.items ++ flat_map live_reg (drop l.each-index l.tracked) ≡ flat_map live_reg l.tracked
