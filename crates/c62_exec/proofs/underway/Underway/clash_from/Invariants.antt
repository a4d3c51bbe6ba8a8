use Rattle.std.proofs.Common.{◌≡◌, ◌+◌}
use Rattle.c62_exec.specs.Step.{clash_from}
use Rattle.c62_exec.proofs.underway.Underway.clash_from.Given as goal

abbrev pub invariant-loop-left : goal.invariant-loop-left
invariant-loop-left l = record {
  found : clash_from l.left l.now l.self.pipe.slots ≡ clash_from l.count l.cycle l.self.pipe.slots;
  now : l.now + l.left ≡ l.cycle + l.count;
}

abbrev pub decreases-loop-left : goal.decreases-loop-left
decreases-loop-left l = l.left
