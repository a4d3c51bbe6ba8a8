use Rattle.std.proofs.Common.{subst}
use Rattle.std.proofs.lemmas.Bool.{OnTrue_at, OnTrue_from}
use Rattle.c62_loop_match.specs.Decide.{HoldThese}
use Rattle.c62_loop_match.proofs.Decides.{holds}
use Rattle.c62_loop_match.proofs.decision.holds_rows.Goals as goal

pub returns : goal.returns
returns c = OnTrue_from c.hold_these.result _ (λ t.
    let told = OnTrue_at t c.hold_these.ensures in
    let these : HoldThese c.args.layout.now c.in_ok-prolog.prolog.items c.in_ok-kernel.kernel.items
    c.in_ok-epilog.epilog.items
    = subst (λ xs. HoldThese c.args.layout.now xs c.in_ok-kernel.kernel.items c.in_ok-epilog.epilog.items)
    c.deref.ensures.value
    (subst (λ xs. HoldThese c.args.layout.now c.deref.result.now xs c.in_ok-epilog.epilog.items) c.deref-2.ensures.value
    (subst (λ xs. HoldThese c.args.layout.now c.deref.result.now c.deref-2.result.now xs) c.deref-3.ensures.value told))
    in
    holds c.args.layout.now c.args.schedule.now c.args.control.now c.in_ok-prolog.prolog.items
    c.in_ok-kernel.kernel.items c.in_ok-epilog.epilog.items c.in_ok-prolog.ensures c.in_ok-kernel.ensures
    c.in_ok-epilog.ensures these)
