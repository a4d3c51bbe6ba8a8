use Rattle.std.proofs.Common.{rules, ◌++◌, subst}
use Rattle.std.proofs.lemmas.Bool.{OnTrue_at}
use Rattle.c62_loop.specs.Whole.{IsSteering, ComeBehind}
use Rattle.c62_loop_match.specs.Parts.{region_of, loop_of, schedule_of, control_of}
use Rattle.c62_loop_match.specs.Promise.{promises}
use Rattle.c62_loop_match.specs.Decide.{IsLayout, IsWork, Fits, HoldsRows}
use Rattle.c62_loop_match.proofs.Decides.{interval_is, answered, holding}
use Rattle.c62_loop_match.proofs.decision.is_pipelining.Goals as goal

pub is_steering-requires-clause-interval : goal.is_steering-requires-clause-interval
is_steering-requires-clause-interval c =
    let laid : IsLayout (loop_of c.args.pipelined.now) c.in-Some.layout = search rules in
    let fit : Fits c.in-Some.layout c.in_ok-works.works.before.items c.in_ok-works.works.body.items
    c.in_ok-works.works.behind.items (schedule_of c.args.schedule.now) c.args.most = c.if-not-fits.ensures in
    interval_is (loop_of c.args.pipelined.now) c.in-Some.layout laid c.args.schedule.now.interval fit.interval

pub returns : goal.returns
returns c =
    let laid : IsLayout (loop_of c.args.pipelined.now) c.in-Some.layout = search rules in
    let work : IsWork (region_of c.args.region.now) c.in_ok-works.works = c.in_ok-works.ensures in
    let fit : Fits c.in-Some.layout c.in_ok-works.works.before.items c.in_ok-works.works.body.items
    c.in_ok-works.works.behind.items (schedule_of c.args.schedule.now) c.args.most = c.if-not-fits.ensures in
    let steering : IsSteering c.args.region.now.counter (loop_of c.args.pipelined.now) c.args.most
    (control_of c.args.control.now) = c.if-not-is_steering.ensures in
    let begins : ComeBehind c.args.region.now.counter c.args.schedule.now.before.items
    (c.args.control.now.early.items ++ c.args.control.now.kernel.items)
    = subst (λ ps. ComeBehind c.args.region.now.counter ps
    (c.args.control.now.early.items ++ c.args.control.now.kernel.items)) c.deref.ensures.value
    c.if-not-begins.ensures in
    let held : HoldsRows c.in-Some.layout (schedule_of c.args.schedule.now) (control_of c.args.control.now) = OnTrue_at
    c.if-not-branch.false c.in_ok-holds_rows.ensures in
    record {
      same = answered (promises c.args.promise) (region_of c.args.region.now) (loop_of c.args.pipelined.now) c.args.most
          c.in-Some.layout c.in_ok-works.works (schedule_of c.args.schedule.now) (control_of c.args.control.now)
          laid work fit steering begins held c.keeps.result c.keeps.ensures;
      interval = holding c.keeps.result _
          (interval_is (loop_of c.args.pipelined.now) c.in-Some.layout laid c.args.schedule.now.interval
          fit.interval);
    }
