use Rattle.std.proofs.Common.{arith, ◌≡◌, ◌<◌, ◌≤◌, length, sym, subst}
use Rattle.std.specs.Prelude.{Contains}
use Rattle.std.proofs.lemmas.List.Elements.{Contains-get_or}
use Rattle.c62_loop.specs.Whole.{ComesBehind}
use Rattle.c62_loop_match.proofs.Starts.{among_all, among_early, more}
use Rattle.c62_loop_match.proofs.begins.early_among.Goals as goal

pub returns-in-Some : goal.returns-in-Some
returns-in-Some c =
    among_early c.args.counter c.args.one.now c.index-others-number.result c.args.others.now c.in-Some.early
    (subst (λ q. Contains c.args.others.now q) (sym c.index-others-number.is)
    (Contains-get_or c.args.others.now c.loop-number.number c.index-others-number.result
    c.loop-number-test.true))
    c.in-Some.ensures

pub loop-number-preserved : goal.loop-number-preserved
loop-number-preserved c =
    more (λ q. ComesBehind c.args.counter c.args.one.now q) c.args.others.now c.loop-number.number
    c.index-others-number.result c.loop-number-test.true c.index-others-number.is c.in_default.ensures
    c.loop-number.invariant

pub returns : goal.returns
returns c = among_all c.args.counter c.args.one.now c.args.others.now
    (λ k d l. c.loop-number.invariant k d (omega (arith, l, c.loop-number-test.false)))
