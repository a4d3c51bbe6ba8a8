use Rattle.std.proofs.Common.{subst}
use Rattle.std.specs.Prelude.{MatchOption}
use Rattle.c62_loop.specs.Whole.{ComeBehind}
use Rattle.c62_loop_match.specs.Begin.{HoldEarlyStart}
use Rattle.c62_loop_match.proofs.Starts.{of_prolog, of_kernel}
use Rattle.c62_loop_match.proofs.begins.first_start.Goals as goal

pub returns-in-Some : goal.returns-in-Some
returns-in-Some c =
    of_prolog c.args.counter c.args.before.now c.args.control.now.early.items c.args.control.now.kernel.items
    c.in-Some.early
    (subst (λ qs. HoldEarlyStart c.args.counter c.args.before.now qs c.in-Some.early) c.deref.ensures.value
    c.in-Some.ensures)

pub returns-in-None : goal.returns-in-None
returns-in-None c =
    of_kernel c.args.counter c.args.before.now c.args.control.now.early.items c.args.control.now.kernel.items
    c.early_behind_any-in-None.result
    (subst (λ qs. ComeBehind c.args.counter c.args.before.now qs) c.deref.ensures.value c.in-None.ensures)
    (subst (λ qs. MatchOption c.early_behind_any-in-None.result (ComeBehind c.args.counter c.args.before.now qs)
    (HoldEarlyStart c.args.counter c.args.before.now qs)) c.deref-in-None.ensures.value
    c.early_behind_any-in-None.ensures)
