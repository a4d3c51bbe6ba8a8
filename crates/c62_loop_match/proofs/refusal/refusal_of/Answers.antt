use Rattle.std.proofs.Common.{rules, ◌++◌, sym, subst}
use Rattle.std.proofs.lemmas.Bool.{OnTrue_at}
use Rattle.c62_loop.specs.Loop.{IsPipelined}
use Rattle.c62_loop_match.specs.Parts.{region_of, loop_of, schedule_of, control_of}
use Rattle.c62_loop_match.specs.Path.{straights_of}
use Rattle.c62_loop_match.specs.Promise.{promises}
use Rattle.c62_loop_match.specs.Decide.{IsLayout, IsWork}
use Rattle.c62_loop_match.specs.Reading.{IsReading}
use Rattle.c62_loop_match.specs.Refusal.{Reads, Refuses}
use Rattle.c62_loop_match.proofs.Readings.{reading, astray, early_start, refused}
use Rattle.c62_loop_match.specs.Begin.{HoldEarlyStart}
use Rattle.c62_loop_match.proofs.refusal.refusal_of.Goals as goal

pub returns-in-Some-astray_in : goal.returns-in-Some-astray_in
returns-in-Some-astray_in c =
    let laid : IsLayout (loop_of c.args.pipelined.now) c.in-Some.layout = search rules in
    let work : IsWork (region_of c.args.region.now) c.in_ok-works.works = c.in_ok-works.ensures in
    let stands : IsPipelined (loop_of c.args.pipelined.now) = c.if-not-is_pipelined.ensures in
    let reads : Reads c.in-Some.layout c.in_ok-works.works.before.items c.in_ok-works.works.body.items
    c.in_ok-works.works.behind.items (schedule_of c.args.schedule.now) (control_of c.args.control.now)
    c.args.most
    = OnTrue_at c.if-not-branch.false c.in_ok-is_reading.ensures in
    let held : IsReading (region_of c.args.region.now) (loop_of c.args.pipelined.now) c.args.most
    (schedule_of c.args.schedule.now) (control_of c.args.control.now)
    = reading (region_of c.args.region.now) (loop_of c.args.pipelined.now) c.args.most c.in-Some.layout
    c.in_ok-works.works (schedule_of c.args.schedule.now) (control_of c.args.control.now) laid work stands reads
    in
    astray (region_of c.args.region.now) (loop_of c.args.pipelined.now) c.args.most c.in-Some.layout c.in_ok-works.works
    (schedule_of c.args.schedule.now) (control_of c.args.control.now) laid work held c.in-Some-astray_in.line
    c.in-Some-astray_in.ensures

pub returns-in-Some-first_start : goal.returns-in-Some-first_start
returns-in-Some-first_start c =
    let laid : IsLayout (loop_of c.args.pipelined.now) c.in-Some.layout = search rules in
    let work : IsWork (region_of c.args.region.now) c.in_ok-works.works = c.in_ok-works.ensures in
    let stands : IsPipelined (loop_of c.args.pipelined.now) = c.if-not-is_pipelined.ensures in
    let reads : Reads c.in-Some.layout c.in_ok-works.works.before.items c.in_ok-works.works.body.items
    c.in_ok-works.works.behind.items (schedule_of c.args.schedule.now) (control_of c.args.control.now)
    c.args.most
    = OnTrue_at c.if-not-branch.false c.in_ok-is_reading.ensures in
    early_start (region_of c.args.region.now) (loop_of c.args.pipelined.now) c.args.most c.in-Some.layout
    c.in_ok-works.works (schedule_of c.args.schedule.now) (control_of c.args.control.now) laid work
    (promises c.args.promise) stands reads c.in-Some-first_start.early
    (subst (λ ps. HoldEarlyStart c.args.region.now.counter ps
    (c.args.control.now.early.items ++ c.args.control.now.kernel.items) c.in-Some-first_start.early)
    c.deref.ensures.value c.in-Some-first_start.ensures)

pub returns : goal.returns
returns c =
    let laid : IsLayout (loop_of c.args.pipelined.now) c.in-Some.layout = search rules in
    let work : IsWork (region_of c.args.region.now) c.in_ok-works.works = c.in_ok-works.ensures in
    let stands : IsPipelined (loop_of c.args.pipelined.now) = c.if-not-is_pipelined.ensures in
    let reads : Reads c.in-Some.layout c.in_ok-works.works.before.items c.in_ok-works.works.body.items
    c.in_ok-works.works.behind.items (schedule_of c.args.schedule.now) (control_of c.args.control.now)
    c.args.most
    = OnTrue_at c.if-not-branch.false c.in_ok-is_reading.ensures in
    let held : IsReading (region_of c.args.region.now) (loop_of c.args.pipelined.now) c.args.most
    (schedule_of c.args.schedule.now) (control_of c.args.control.now)
    = reading (region_of c.args.region.now) (loop_of c.args.pipelined.now) c.args.most c.in-Some.layout
    c.in_ok-works.works (schedule_of c.args.schedule.now) (control_of c.args.control.now) laid work stands reads
    in
    subst (λ r. Refuses (promises c.args.promise) (region_of c.args.region.now) (loop_of c.args.pipelined.now)
    c.args.most r) (sym c.refused_for.ensures)
    (refused (region_of c.args.region.now) (loop_of c.args.pipelined.now) c.args.most c.in-Some.layout
    c.in_ok-works.works (schedule_of c.args.schedule.now) (control_of c.args.control.now) laid work
    (promises c.args.promise) held
    (straights_of c.in_ok-work.work) c.in_ok-work.ensures c.in_ok-distances_of.field-0 c.in_ok-distances_of.ensures)
