use Rattle.std.proofs.Common.{◌≡◌, ◌≤◌}
use Rattle.std.specs.Prelude.{IfSome}
use Rattle.c62_kernels.specs.declared.modulo.Modulo.{Modulo}
use Rattle.c62_kernels.proofs.search.schedule_of.Given as goal

abbrev pub invariant-loop-begin : goal.invariant-loop-begin
invariant-loop-begin l = record {
  interval : IfSome l.tries.found (λ (modulo : Modulo). modulo.interval ≡ l.interval);
  left : l.left ≤ l.initial.left;
}

abbrev pub invariant-loop-way : goal.invariant-loop-way
invariant-loop-way l = record {
  interval : IfSome l.tries.found (λ (modulo : Modulo). modulo.interval ≡ l.interval);
  left : l.left ≤ l.fn.left;
}
