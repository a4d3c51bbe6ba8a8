use Rattle.std.proofs.Common.{◌≡◌, ◌+◌}
use Rattle.c62_exec.specs.Step.{on_way, settled}
use Rattle.c62_exec.proofs.underway.Underway.settle.Given as goal

abbrev pub invariant-loop-left : goal.invariant-loop-left
invariant-loop-left l = record {
  settled : settled l.left l.now (on_way l.self.pipe l.self.turns l.state.machine) ≡ settled l.count l.cycle
      (on_way l.fn.self.pipe l.fn.self.turns l.fn.state.machine);
  now : l.now + l.left ≡ l.cycle + l.count;
}

abbrev pub decreases-loop-left : goal.decreases-loop-left
decreases-loop-left l = l.left
