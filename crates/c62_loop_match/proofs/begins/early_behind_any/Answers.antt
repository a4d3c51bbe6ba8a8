use Rattle.std.proofs.Common.{arith, ◌≡◌, ◌<◌, ◌≤◌, [], ◌∷◌, length, sym, subst}
use Rattle.std.specs.Prelude.{Contains}
use Rattle.std.proofs.lemmas.List.Elements.{Contains-get_or}
use Rattle.c62_loop.specs.Whole.{ComeBehind}
use Rattle.c62_loop_match.proofs.Starts.{any_all, any_early, more}
use Rattle.c62_loop_match.proofs.begins.early_behind_any.Goals as goal

pub returns-in-Some : goal.returns-in-Some
returns-in-Some c =
    any_early c.args.counter c.index-ones-number.result c.args.ones.now c.args.others.now c.in-Some.early
    (subst (λ p. Contains c.args.ones.now p) (sym c.index-ones-number.is)
    (Contains-get_or c.args.ones.now c.loop-number.number c.index-ones-number.result c.loop-number-test.true))
    c.in-Some.ensures

pub loop-number-preserved : goal.loop-number-preserved
loop-number-preserved c =
    more (λ p. ComeBehind c.args.counter (p ∷ []) c.args.others.now) c.args.ones.now c.loop-number.number
    c.index-ones-number.result c.loop-number-test.true c.index-ones-number.is c.in_default.ensures
    c.loop-number.invariant

pub returns : goal.returns
returns c = any_all c.args.counter c.args.ones.now c.args.others.now
    (λ k d l. c.loop-number.invariant k d (omega (arith, l, c.loop-number-test.false)))
