use Rattle.std.proofs.Common.{◌≡◌, ◌≤◌, ◌+◌, ◌*◌, drop}
use Rattle.c62_rules.specs.Capacity.{used}
use Rattle.c62_packet.specs.Packed.{issued}
use Rattle.c62_why.proofs.taken.used.Given as goal

abbrev pub invariant-loop-each : goal.invariant-loop-each
invariant-loop-each l = record {
  rest : l.sum + used l.resource l.cycle (issued (drop l.each-index l.placed)) ≡ used l.resource l.cycle
      (issued l.placed);
  few : l.sum ≤ 6 * l.each-index;
}
