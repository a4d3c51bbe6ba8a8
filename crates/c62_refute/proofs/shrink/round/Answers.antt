use Rattle.std.proofs.lemmas.Result.{IfOk-weaker}
use Rattle.std.specs.Prelude.{IsTrue, IsFalse}
use Rattle.c62_depend.specs.Plan.{insns_of}
use Rattle.c62_refute.specs.Window.{HoldNone, KeepAll}
use Rattle.c62_refute.proofs.Holding.{keep_on, none_before}
use Rattle.c62_refute.proofs.shrink.round.Goals as goal

pub returns-then-has_empty-clause-none : goal.returns-then-has_empty-clause-none
returns-then-has_empty-clause-none c = λ e. none_before (insns_of c.args.plan.now) c.args.windows.now
    c.keep_edges.new.windows c.keep_edges.ensures.keeps
    (c.has_empty.ensures c.if-has_empty.true)

pub returns-clause-keeps : goal.returns-clause-keeps
returns-clause-keeps c =
    IfOk-weaker c.part_rooms.result (λ kept. IsTrue kept
    → KeepAll (insns_of c.args.plan.now) c.keep_edges.new.windows c.part_rooms.new.windows)
    (λ kept. IsTrue kept → KeepAll (insns_of c.args.plan.now) c.args.windows.now c.part_rooms.new.windows)
    (λ kept keeps is. keep_on (insns_of c.args.plan.now) c.args.windows.now c.keep_edges.new.windows
    c.part_rooms.new.windows c.keep_edges.ensures.keeps (keeps is))
    c.part_rooms.ensures.keeps

pub returns-clause-none : goal.returns-clause-none
returns-clause-none c =
    IfOk-weaker c.part_rooms.result (λ kept. IsFalse kept
    → HoldNone (insns_of c.args.plan.now) c.keep_edges.new.windows)
    (λ kept. IsFalse kept → HoldNone (insns_of c.args.plan.now) c.args.windows.now)
    (λ kept none is. none_before (insns_of c.args.plan.now) c.args.windows.now c.keep_edges.new.windows
    c.keep_edges.ensures.keeps (none is))
    c.part_rooms.ensures.none
