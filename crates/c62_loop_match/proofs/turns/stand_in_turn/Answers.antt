use Rattle.std.proofs.Common.{◌≡◌, ◌+◌, true, sym, ◌∙◌, subst}
use Rattle.std.specs.List.{list_all}
use Rattle.std.proofs.lemmas.List.{take_rest}
use Rattle.c62_loop_match.specs.Turns.{in_turn}
use Rattle.c62_loop_match.proofs.InTurn.{standing_first, standing_next, standing_all}
use Rattle.c62_loop_match.proofs.turns.stand_in_turn.Goals as goal

pub loop-number-init : goal.loop-number-init
loop-number-init c = standing_first c.args.counter c.args.placed.now

pub loop-number-preserved : goal.loop-number-preserved
loop-number-preserved c =
    standing_next c.args.counter c.args.placed.now c.loop-number.number c.index-placed-number.result
    c.loop-number-test.true c.index-placed-number.is
    (subst (λ xs. list_all (in_turn c.args.counter 0 c.index-placed-number.result) xs ≡ true)
    (take_rest c.args.placed.now (c.loop-number.number + 1)) (sym c.is_before_all.ensures
    ∙ c.if-not-is_before_all.false))
    c.loop-number.invariant

pub returns : goal.returns
returns c = standing_all c.args.counter c.args.placed.now c.loop-number.number c.loop-number-test.false
    c.loop-number.invariant
