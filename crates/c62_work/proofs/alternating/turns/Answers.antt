use Rattle.std.proofs.Common.{sym, ◌∙◌}
use Rattle.std.proofs.lemmas.Bool.{false≢true}
use Rattle.c62_op.specs.declared.register.Side.TheVariants.{A, B}
use Rattle.c62_work.specs.Turns.{GoesOn}
use Rattle.c62_work.proofs.Steps.{taken_none, taken_more, taken_last, both_less}
use Rattle.c62_work.proofs.alternating.turns.Goals as goal

pub loop-first-init : goal.loop-first-init
loop-first-init c = taken_none c.args.board.now

pub returns-then-not-goes_on : goal.returns-then-not-goes_on
returns-then-not-goes_on c =
    taken_last c.args.board.now c.loop-first.board c.step-first.new.self A c.step-first.result c.loop-first.invariant
    c.step-first.ensures
    (λ (goes : GoesOn c.step-first.result). false≢true (sym c.if-not-goes_on.true ∙ c.goes_on.ensures.1 goes))

pub returns-then-not-goes_on-2 : goal.returns-then-not-goes_on-2
returns-then-not-goes_on-2 c =
    taken_last c.args.board.now c.step-first.new.self c.step-second.new.self B c.step-second.result
    (taken_more c.args.board.now c.loop-first.board c.step-first.new.self A c.step-first.result c.loop-first.invariant
    c.step-first.ensures (c.goes_on.ensures.0 c.if-not-goes_on.false))
    c.step-second.ensures
    (λ (goes : GoesOn c.step-second.result). false≢true (sym c.if-not-goes_on-2.true
    ∙ c.goes_on-in-loop-first.ensures.1 goes))

pub loop-first-smaller : goal.loop-first-smaller
loop-first-smaller c =
    both_less c.loop-first.board c.step-first.new.self c.step-second.new.self c.step-first.result c.step-second.result
    c.plan.ensures.sound
    c.step-first.ensures (c.goes_on.ensures.0 c.if-not-goes_on.false) c.step-second.ensures
    (c.goes_on-in-loop-first.ensures.0 c.if-not-goes_on-2.false)

pub loop-first-preserved : goal.loop-first-preserved
loop-first-preserved c =
    taken_more c.args.board.now c.step-first.new.self c.step-second.new.self B c.step-second.result
    (taken_more c.args.board.now c.loop-first.board c.step-first.new.self A c.step-first.result c.loop-first.invariant
    c.step-first.ensures (c.goes_on.ensures.0 c.if-not-goes_on.false))
    c.step-second.ensures (c.goes_on-in-loop-first.ensures.0 c.if-not-goes_on-2.false)
