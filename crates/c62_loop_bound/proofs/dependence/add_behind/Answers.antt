use Rattle.std.proofs.Common.{arith, ◌-◌, List, Option, Some, None, sym, subst}
use Rattle.std.specs.Prelude.{All, IfSome}
use Rattle.std.proofs.lemmas.List.Elements.{All-push}
use Rattle.c62_pair.specs.Uses.{insns_in}
use Rattle.c62_loop_match.specs.Promise.{promises}
use Rattle.c62_loop_match.proofs.Written.{none_written, one_back, written_are}
use Rattle.c62_loop_bound.specs.declared.dependence.Dependence.{Dependence}
use Rattle.c62_loop_bound.specs.Circle.{IsDependence}
use Rattle.c62_loop_bound.specs.Steps.{with_one}
use Rattle.c62_loop_bound.proofs.dependence.add_behind.Goals as goal

-- what holds of all and of one more, if there is one, holds of both
all_with : (P : Dependence → Type 0) (found : List Dependence) (one : Option Dependence) → All P found → IfSome one P
    → All P (with_one found one)
all_with P found None all one = all
all_with P found (Some x) all one = All-push P found x all one

pub loop-i-init : goal.loop-i-init
loop-i-init c = record {
  inside = omega arith;
  written = none_written c.args.path.now c.new-written.result c.args.j c.new-written.ensures;
  found = λ work thrice all. all;
}

pub between-requires-clause-written : goal.between-requires-clause-written
between-requires-clause-written c =
    written_are c.args.path.now c.joined-written.result (c.loop-i.i - 1) c.args.j
    (one_back c.args.path.now c.loop-i.written c.joined-written.result c.loop-i.i c.args.j c.index-path-i.result
    c.loop-i-test.true c.loop-i.invariant.inside c.requires.within c.joined-written.ensures
    c.loop-i.invariant.written)

pub loop-i-preserved : goal.loop-i-preserved
loop-i-preserved c = record {
  inside = omega (arith, c.loop-i.invariant.inside);
  written = one_back c.args.path.now c.loop-i.written c.joined-written.result c.loop-i.i c.args.j c.index-path-i.result
      c.loop-i-test.true c.loop-i.invariant.inside c.requires.within c.joined-written.ensures
      c.loop-i.invariant.written;
  found = λ work thrice all. subst (All (IsDependence (promises c.args.promise) (insns_in work)))
      (sym c.in_ok-push.ensures)
      (all_with (IsDependence (promises c.args.promise) (insns_in work)) c.loop-i.found.items c.between.result
      (c.loop-i.invariant.found work thrice all) (c.between.ensures work thrice));
}
