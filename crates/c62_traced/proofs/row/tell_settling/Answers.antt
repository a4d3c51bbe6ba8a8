use Rattle.std.proofs.Common.{◌≡◌, ◌+◌, ◌-◌, ◌<◌, ◌≤◌, ap, arith}
use Rattle.c62_traced.specs.Row.{landing_log, settling_log}
use Rattle.c62_traced.proofs.Passing.{rest_first, rest_more, rest_over, settling_more, settling_none}
use Rattle.c62_traced.proofs.row.tell_settling.Goals as goal

pub loop-cycle-init : goal.loop-cycle-init
loop-cycle-init g c =
    let four : c.args.first + 4 - c.args.first ≡ 4 = omega arith in
    record {
      told = rw four (rest_first g.T.Watch.tells g.met.T.Watch.nothing g.met.T.Watch.more c.args.watch.now
          (settling_log c.args.first 4 c.args.pipe.now.slots));
      from = omega arith;
      to = omega arith;
    }

pub loop-cycle-preserved : goal.loop-cycle-preserved
loop-cycle-preserved g c =
    let before : c.loop-cycle.cycle < c.args.first + 4 = omega arith in
    record {
      told = rest_more g.T.Watch.tells g.met.T.Watch.nothing g.met.T.Watch.more c.args.watch.now c.loop-cycle.watch
          c.landings.new.self (landing_log c.loop-cycle.cycle c.args.pipe.now.slots)
          (settling_log (c.loop-cycle.cycle + 1) (c.args.first + 4 - (c.loop-cycle.cycle + 1)) c.args.pipe.now.slots)
          (settling_log c.loop-cycle.cycle (c.args.first + 4 - c.loop-cycle.cycle) c.args.pipe.now.slots)
          (settling_log c.args.first 4 c.args.pipe.now.slots) c.loop-cycle.invariant.told
          (rw c.due.ensures at c.in_ok-landings.ensures)
          (settling_more c.loop-cycle.cycle (c.args.first + 4) c.args.pipe.now.slots before);
      from = omega arith;
      to = omega arith;
    }

pub returns : goal.returns
returns g c =
    let past : c.args.first + 4 ≤ c.loop-cycle.cycle = omega arith in
    rest_over g.T.Watch.tells g.met.T.Watch.nothing g.met.T.Watch.more c.args.watch.now c.loop-cycle.watch
    (settling_log c.loop-cycle.cycle (c.args.first + 4 - c.loop-cycle.cycle) c.args.pipe.now.slots)
    (settling_log c.args.first 4 c.args.pipe.now.slots) c.loop-cycle.invariant.told
    (settling_none c.loop-cycle.cycle (c.args.first + 4) c.args.pipe.now.slots past)
