use Rattle.std.proofs.Common.{rules, false, List, ◌++◌, ◌≡◌, ◌∙◌, ap, map, get_or, subst}
use Rattle.std.specs.Prelude.{All, IsFalse}
use Rattle.std.proofs.lemmas.Bool.{OnTrue_at}
use Rattle.c62_op.specs.Shape.{is_store}
use Rattle.c62_insn.specs.Insn.{op_of}
use Rattle.c62_read.specs.declared.block.SerialInsn.{SerialInsn}
use Rattle.c62_loop.specs.Whole.{IsSteering, ComeBehind}
use Rattle.c62_loop_match.specs.declared.beyond.Beyond.{Beyond}
use Rattle.c62_loop_match.specs.Parts.{region_of, loop_of, schedule_of, control_of}
use Rattle.c62_loop_match.specs.Promise.{promises}
use Rattle.c62_loop_match.specs.Decide.{IsLayout, IsWork, HoldsRows}
use Rattle.c62_loop_match.specs.Collapse.{FitsPast, KeepDistancesPast}
use Rattle.c62_loop_match.proofs.Decides.{interval_is}
use Rattle.c62_loop_match.proofs.PastDecides.{collapses}
use Rattle.c62_loop_match.proofs.collapse.collapsing.Goals as goal

pub is_steering-requires-clause-interval : goal.is_steering-requires-clause-interval
is_steering-requires-clause-interval c =
    let laid : IsLayout (loop_of c.args.pipelined.now) c.in-Some.layout = search rules in
    let fit : FitsPast c.in-Some.layout c.in_ok-works.works c.args.schedule.now c.args.beyond.now c.args.most
    c.args.deep
    = c.if-not-fits_past.ensures in
    interval_is (loop_of c.args.pipelined.now) c.in-Some.layout laid c.args.schedule.now.interval fit.interval

pub returns-clause-same : goal.returns-clause-same
returns-clause-same c =
    let laid : IsLayout (loop_of c.args.pipelined.now) c.in-Some.layout = search rules in
    let work : IsWork (region_of c.args.region.now) c.in_ok-works.works = c.in_ok-works.ensures in
    let fit : FitsPast c.in-Some.layout c.in_ok-works.works c.args.schedule.now c.args.beyond.now c.args.most
    c.args.deep
    = c.if-not-fits_past.ensures in
    let steers : IsSteering c.args.region.now.counter (loop_of c.args.pipelined.now) c.args.most
    (control_of c.args.control.now) = c.if-not-is_steering.ensures in
    let begins : ComeBehind c.args.region.now.counter c.args.schedule.now.before.items
    (c.args.control.now.early.items ++ c.args.control.now.kernel.items)
    = subst (λ ps. ComeBehind c.args.region.now.counter ps
    (c.args.control.now.early.items ++ c.args.control.now.kernel.items)) c.deref.ensures.value
    c.if-not-begins.ensures in
    let held : HoldsRows c.in-Some.layout (schedule_of c.args.schedule.now) (control_of c.args.control.now) = OnTrue_at
    c.if-not-branch.false c.in_ok-holds_rows.ensures in
    collapses (promises c.args.promise) (region_of c.args.region.now) (loop_of c.args.pipelined.now) c.args.most
    c.args.deep c.in-Some.layout c.in_ok-works.works c.args.schedule.now c.args.control.now c.args.beyond.now
    c.in-Some-first.other.now c.in_ok-past.past.items laid work fit
    (c.in_ok-past.ensures ∙ ap (λ (xs : List SerialInsn). map
    (λ (one : Beyond). get_or xs one.place c.in-Some-first.other.now) c.args.beyond.now) c.deref-3.ensures.value)
    steers begins held
    (subst (λ (xs : List SerialInsn). All (λ entry. IsFalse (is_store (op_of entry.insn))) xs) c.deref-4.ensures.value
    c.if-not-store_nothing.ensures)
    (subst (λ (xs : List SerialInsn). KeepDistancesPast (promises c.args.promise) c.in_ok-works.works xs
    c.args.schedule.now c.args.most c.args.deep c.args.beyond.now) c.deref-5.ensures.value
    (OnTrue_at c.if-not-branch-2.false c.in_ok-keep_distances.ensures))

pub returns-clause-interval : goal.returns-clause-interval
returns-clause-interval c =
    let laid : IsLayout (loop_of c.args.pipelined.now) c.in-Some.layout = search rules in
    let fit : FitsPast c.in-Some.layout c.in_ok-works.works c.args.schedule.now c.args.beyond.now c.args.most
    c.args.deep
    = c.if-not-fits_past.ensures in
    interval_is (loop_of c.args.pipelined.now) c.in-Some.layout laid c.args.schedule.now.interval fit.interval
