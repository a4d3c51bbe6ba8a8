use Rattle.std.proofs.Common.{◌≡◌, ℕ, ◌<◌, ◌≤◌, List, length, get_or, sym, ◌∙◌, ap, subst, arith}
use Rattle.c62_serial.specs.State.{IsSound}
use Rattle.c62_packet.specs.declared.placed.Placed.{Placed}
use Rattle.c62_pipe.proofs.Running.{begins, ahead, waits, drains, goes_on, ready, in_time, finish}
use Rattle.c62_traced.proofs.Packets.{issued_more, cycle_over, log_begins, block_told}
use Rattle.c62_traced.proofs.block.run_told.Goals as goal

-- the instruction that is next
at_item : (block all : List Placed) (i : ℕ) (p : Placed) → all ≡ block → i < length all → p ≡ get_or all i p
    → (i < length block) × (get_or block i p ≡ p)
at_item block all i p e l found = (subst (λ ps. i < length ps) e l, sym (subst (λ ps. p ≡ get_or ps i p) e found))

pub loop-placed-init : goal.loop-placed-init
loop-placed-init g c =
    let sound : IsSound c.args.state.now.machine = subst IsSound c.in_ok-room.ensures.machine c.faults.ensures.sound
    in
    let all : length c.placed-all.result.now ≡ length c.args.block.now.placed = ap length c.placed-all.ensures.same in
    let enough : length c.placed-all.result.now ≤ c.room.new.self.room = c.in_ok-room.ensures.ok in
    record {
      running = begins c.args.block.now c.args.state.now c.new-pipe.result c.room.new.self sound c.new-pipe.ensures.size
          c.new-pipe.ensures.slots c.new-pipe.ensures.stores c.in_ok-room.ensures.machine (omega arith);
      within = omega arith;
      told = subst (g.T.Watch.tells c.args.watch.now c.args.watch.now)
          (sym (log_begins c.args.first c.args.block.now.placed c.args.state.now.machine))
          (g.met.T.Watch.nothing c.args.watch.now);
    }

pub loop-cycle-init : goal.loop-cycle-init
loop-cycle-init g c =
    let item = at_item c.args.block.now.placed c.placed-all.result.now c.loop-placed.placed-index c.placed-item.result
    c.placed-all.ensures.same c.loop-placed-test.true c.placed-item.is in
    let start : c.from-start.result ≡ c.placed-item.result.cycle = c.from-start.ensures in
    let first : c.loop-placed.cycle ≤ c.placed-item.result.cycle
    = ahead c.args.block.now.placed c.args.state.now.machine c.loop-placed.cycle c.loop-placed.placed-index
    c.loop-placed.pipe c.loop-placed.state.machine c.loop-placed.exit c.loop-placed.state.room
    c.placed-item.result c.loop-placed.invariant.running item.0 item.1 in
    record {
      running = c.loop-placed.invariant.running;
      within = omega arith;
      now = start;
      told = c.loop-placed.invariant.told;
    }

pub loop-cycle-preserved : goal.loop-cycle-preserved
loop-cycle-preserved g c =
    let item = at_item c.args.block.now.placed c.placed-all.result.now c.loop-placed.placed-index c.placed-item.result
    c.placed-all.ensures.same c.loop-placed-test.true c.placed-item.is in
    let start : c.from-start.result ≡ c.placed-item.result.cycle = c.from-start.ensures in
    let before : c.loop-cycle.cycle < c.placed-item.result.cycle = omega arith in
    let on = waits c.args.block.now c.args.state.now.machine c.loop-cycle.cycle c.loop-placed.placed-index
    c.loop-cycle.pipe c.end_cycle.new.self c.loop-cycle.state c.end_cycle.new.state c.loop-placed.exit
    c.placed-item.result c.placed-all.ensures.sound c.loop-cycle.invariant.running item.0 item.1 before
    c.end_cycle.ensures.flight c.end_cycle.ensures.state in
    record {
      running = on;
      within = omega arith;
      now = c.from-start.ensures;
      told = subst (g.T.Watch.tells c.args.watch.now c.landings.new.self)
          (cycle_over c.args.first c.args.block.now.placed c.args.state.now.machine c.loop-cycle.cycle
          c.loop-placed.placed-index c.loop-cycle.pipe c.loop-cycle.state.machine c.loop-placed.exit
          c.loop-cycle.state.room c.loop-cycle.invariant.running c.end_cycle.new.self c.end_cycle.new.state.machine
          c.loop-placed.exit c.end_cycle.new.state.room on)
          (g.met.T.Watch.more c.args.watch.now c.loop-cycle.watch c.landings.new.self _ _ c.loop-cycle.invariant.told
          (rw c.due.ensures at c.in_ok-landings.ensures));
    }

pub issue-requires-clause-few : goal.issue-requires-clause-few
issue-requires-clause-few g c =
    let item = at_item c.args.block.now.placed c.placed-all.result.now c.loop-placed.placed-index c.placed-item.result
    c.placed-all.ensures.same c.loop-placed-test.true c.placed-item.is in
    (ready c.args.block.now c.args.state.now.machine c.loop-cycle.cycle c.loop-placed.placed-index c.loop-cycle.pipe
    c.loop-cycle.state c.loop-placed.exit c.placed-item.result c.loop-cycle.invariant.running item.0 item.1
    (omega arith)).few

pub issue-requires-clause-fits : goal.issue-requires-clause-fits
issue-requires-clause-fits g c =
    let item = at_item c.args.block.now.placed c.placed-all.result.now c.loop-placed.placed-index c.placed-item.result
    c.placed-all.ensures.same c.loop-placed-test.true c.placed-item.is in
    (ready c.args.block.now c.args.state.now.machine c.loop-cycle.cycle c.loop-placed.placed-index c.loop-cycle.pipe
    c.loop-cycle.state c.loop-placed.exit c.placed-item.result c.loop-cycle.invariant.running item.0 item.1
    (omega arith)).fits

pub loop-placed-preserved : goal.loop-placed-preserved
loop-placed-preserved g c =
    let item = at_item c.args.block.now.placed c.placed-all.result.now c.loop-placed.placed-index c.placed-item.result
    c.placed-all.ensures.same c.loop-placed-test.true c.placed-item.is in
    let before : c.placed-item.result.cycle < c.args.block.now.cycles = in_time c.args.block.now
    c.loop-placed.placed-index c.placed-item.result c.placed-all.ensures.sound item.0 item.1 in
    let length : c.from-length.result ≡ c.args.block.now.cycles = c.from-length.ensures ∙ c.length.ensures.same in
    let now : c.placed-item.result.cycle ≡ c.loop-cycle.cycle = omega arith in
    record {
      running = goes_on c.args.block.now c.args.state.now.machine c.loop-cycle.cycle c.loop-placed.placed-index
          c.loop-cycle.pipe c.issue.new.self c.loop-cycle.state c.issue.new.state c.loop-placed.exit
          c.exit_after-exit.result
          c.issue.result c.placed-item.result c.placed-all.ensures.sound c.loop-cycle.invariant.running item.0 item.1
          now c.issue.ensures.flight c.issue.ensures.machine c.issue.ensures.room
          c.issue.ensures.target
          c.exit_after-exit.ensures;
      within = omega arith;
      told = subst (g.T.Watch.tells c.args.watch.now c.insn.new.self)
          (issued_more c.args.first c.args.block.now.placed c.args.state.now.machine c.loop-cycle.cycle
          c.loop-placed.placed-index c.loop-cycle.pipe c.loop-cycle.state.machine c.loop-placed.exit
          c.loop-cycle.state.room c.loop-cycle.invariant.running c.placed-item.result item.0 item.1 now)
          (g.met.T.Watch.more c.args.watch.now c.loop-cycle.watch c.insn.new.self _ _ c.loop-cycle.invariant.told
          c.in_ok-insn.ensures);
    }

pub loop-cycle-2-preserved : goal.loop-cycle-2-preserved
loop-cycle-2-preserved g c =
    let on = drains c.args.block.now c.args.state.now.machine c.loop-cycle-2.cycle c.loop-cycle-2.pipe
    c.end_cycle-in-loop-cycle-2.new.self
    c.loop-cycle-2.state c.end_cycle-in-loop-cycle-2.new.state c.loop-placed.exit
    c.placed-all.ensures.sound c.loop-cycle-2.invariant.running c.end_cycle-in-loop-cycle-2.ensures.flight
    c.end_cycle-in-loop-cycle-2.ensures.state in
    record {
      running = on;
      within = omega arith;
      told = subst (g.T.Watch.tells c.args.watch.now c.landings-in-loop-cycle-2.new.self)
          (cycle_over c.args.first c.args.block.now.placed c.args.state.now.machine c.loop-cycle-2.cycle
          (length c.args.block.now.placed) c.loop-cycle-2.pipe c.loop-cycle-2.state.machine c.loop-placed.exit
          c.loop-cycle-2.state.room c.loop-cycle-2.invariant.running c.end_cycle-in-loop-cycle-2.new.self
          c.end_cycle-in-loop-cycle-2.new.state.machine c.loop-placed.exit
          c.end_cycle-in-loop-cycle-2.new.state.room on)
          (g.met.T.Watch.more c.args.watch.now c.loop-cycle-2.watch c.landings-in-loop-cycle-2.new.self _ _
          c.loop-cycle-2.invariant.told (rw c.due-in-loop-cycle-2.ensures at c.in_ok-landings-2.ensures));
    }

pub returns-clause-told : goal.returns-clause-told
returns-clause-told g c =
    let length : c.from-length.result ≡ c.args.block.now.cycles = c.from-length.ensures ∙ c.length.ensures.same in
    let over : c.loop-cycle-2.cycle ≡ c.args.block.now.cycles = omega arith in (
      _,
      block_told c.args.first c.args.block.now c.args.state.now.machine c.loop-cycle-2.state.machine c.loop-placed.exit
          c.loop-cycle-2.cycle c.placed-all.ensures.sound
          (finish c.args.block.now c.args.state.now.machine c.loop-cycle-2.cycle c.loop-cycle-2.pipe
          c.loop-cycle-2.state.machine c.loop-placed.exit c.loop-cycle-2.state.room c.loop-cycle-2.invariant.running
          over)
          over,
      c.loop-cycle-2.invariant.told,
    )
