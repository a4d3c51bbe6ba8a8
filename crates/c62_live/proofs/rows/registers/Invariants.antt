use Rattle.std.proofs.Common.{◌≡◌, ◌++◌, ◌-◌}
use Rattle.std.specs.List.{flat_map, range_with_len}
use Rattle.c62_live.specs.Rows.{register_at, registers}
use Rattle.c62_live.proofs.rows.registers.Given as goal

abbrev pub invariant-loop-number : goal.invariant-loop-number
invariant-loop-number l =
    l.regs.items ++ flat_map (register_at l.side) (range_with_len l.number (16 - l.number)) ≡ registers l.side
