use Rattle.std.proofs.Common.{◌≡◌, ℕ, ◌<◌, ◌≤◌, List, length, get_or, refl, sym, ◌∙◌, ap, subst, arith}
use Rattle.c62_serial.specs.State.{IsSound}
use Rattle.c62_packet.specs.declared.placed.Placed.{Placed}
use Rattle.c62_pipe.proofs.Running.{begins, ahead, waits, drains, goes_on, ready, in_time, finish}
use Rattle.c62_faulted_packets.proofs.Blocks.{noted_next, runs_noted}
use Rattle.c62_faulted_packets.proofs.block.run_noting.Goals as goal

-- the instruction that is next
at_item : (block all : List Placed) (i : ℕ) (p : Placed) → all ≡ block → i < length all → p ≡ get_or all i p
    → (i < length block) × (get_or block i p ≡ p)
at_item block all i p e l found = (subst (λ ps. i < length ps) e l, sym (subst (λ ps. p ≡ get_or ps i p) e found))

pub loop-placed-init : goal.loop-placed-init
loop-placed-init c =
    let sound : IsSound c.args.state.now.machine = subst IsSound c.in_ok-room.ensures.machine c.faults.ensures.sound
    in
    let all : length c.placed-all.result.now ≡ length c.args.block.now.placed = ap length c.placed-all.ensures.same in
    let enough : length c.placed-all.result.now ≤ c.room.new.self.room = c.in_ok-room.ensures.ok in
    record {
      running = begins c.args.block.now c.args.state.now c.new-pipe.result c.room.new.self sound c.new-pipe.ensures.size
          c.new-pipe.ensures.slots c.new-pipe.ensures.stores c.in_ok-room.ensures.machine (omega arith);
      within = omega arith;
      noted = refl;
    }

pub loop-cycle-init : goal.loop-cycle-init
loop-cycle-init c =
    let item = at_item c.args.block.now.placed c.placed-all.result.now c.loop-placed.placed-index c.placed-item.result
    c.placed-all.ensures.same c.loop-placed-test.true c.placed-item.is in
    let start : c.from-start.result ≡ c.placed-item.result.cycle = c.from-start.ensures in
    let first : c.loop-placed.cycle ≤ c.placed-item.result.cycle
    = ahead c.args.block.now.placed c.args.state.now.machine c.loop-placed.cycle c.loop-placed.placed-index
    c.loop-placed.pipe c.loop-placed.state.machine c.loop-placed.exit c.loop-placed.state.room
    c.placed-item.result c.loop-placed.invariant.running item.0 item.1 in
    record { running = c.loop-placed.invariant.running; within = omega arith; now = start }

pub loop-cycle-preserved : goal.loop-cycle-preserved
loop-cycle-preserved c =
    let item = at_item c.args.block.now.placed c.placed-all.result.now c.loop-placed.placed-index c.placed-item.result
    c.placed-all.ensures.same c.loop-placed-test.true c.placed-item.is in
    let start : c.from-start.result ≡ c.placed-item.result.cycle = c.from-start.ensures in
    let before : c.loop-cycle.cycle < c.placed-item.result.cycle = omega arith in
    record {
      running = waits c.args.block.now c.args.state.now.machine c.loop-cycle.cycle c.loop-placed.placed-index
          c.loop-cycle.pipe c.end_cycle.new.self c.loop-cycle.state c.end_cycle.new.state c.loop-placed.exit
          c.placed-item.result c.placed-all.ensures.sound c.loop-cycle.invariant.running item.0 item.1 before
          c.end_cycle.ensures.flight c.end_cycle.ensures.state;
      within = omega arith;
      now = c.from-start.ensures;
    }

pub issue-requires-clause-few : goal.issue-requires-clause-few
issue-requires-clause-few c =
    let item = at_item c.args.block.now.placed c.placed-all.result.now c.loop-placed.placed-index c.placed-item.result
    c.placed-all.ensures.same c.loop-placed-test.true c.placed-item.is in
    (ready c.args.block.now c.args.state.now.machine c.loop-cycle.cycle c.loop-placed.placed-index c.loop-cycle.pipe
    c.loop-cycle.state c.loop-placed.exit c.placed-item.result c.loop-cycle.invariant.running item.0 item.1
    (omega arith)).few

pub issue-requires-clause-fits : goal.issue-requires-clause-fits
issue-requires-clause-fits c =
    let item = at_item c.args.block.now.placed c.placed-all.result.now c.loop-placed.placed-index c.placed-item.result
    c.placed-all.ensures.same c.loop-placed-test.true c.placed-item.is in
    (ready c.args.block.now c.args.state.now.machine c.loop-cycle.cycle c.loop-placed.placed-index c.loop-cycle.pipe
    c.loop-cycle.state c.loop-placed.exit c.placed-item.result c.loop-cycle.invariant.running item.0 item.1
    (omega arith)).fits

pub loop-placed-preserved : goal.loop-placed-preserved
loop-placed-preserved c =
    let item = at_item c.args.block.now.placed c.placed-all.result.now c.loop-placed.placed-index c.placed-item.result
    c.placed-all.ensures.same c.loop-placed-test.true c.placed-item.is in
    let before : c.placed-item.result.cycle < c.args.block.now.cycles = in_time c.args.block.now
    c.loop-placed.placed-index c.placed-item.result c.placed-all.ensures.sound item.0 item.1 in
    let length : c.from-length.result ≡ c.args.block.now.cycles = c.from-length.ensures ∙ c.length.ensures.same in
    record {
      running = goes_on c.args.block.now c.args.state.now.machine c.loop-cycle.cycle c.loop-placed.placed-index
          c.loop-cycle.pipe c.issue.new.self c.loop-cycle.state c.issue.new.state c.loop-placed.exit
          c.exit_after-exit.result
          c.issue.result c.placed-item.result c.placed-all.ensures.sound c.loop-cycle.invariant.running item.0 item.1
          (omega arith) c.issue.ensures.flight c.issue.ensures.machine c.issue.ensures.room
          c.issue.ensures.target
          c.exit_after-exit.ensures;
      within = omega arith;
      noted = noted_next c.args.block.now.placed c.args.state.now.machine c.loop-cycle.cycle c.loop-placed.placed-index
          c.loop-cycle.pipe c.loop-cycle.state.machine c.loop-placed.exit c.loop-cycle.state.room c.placed-item.result
          c.args.faults.now.items c.loop-placed.faults.items c.note_placed.new.faults.items
          c.loop-cycle.invariant.running item.0 item.1 (omega arith) c.loop-placed.invariant.noted
          c.in_ok-note_placed.ensures;
    }

pub loop-cycle-2-preserved : goal.loop-cycle-2-preserved
loop-cycle-2-preserved c = record {
  running = drains c.args.block.now c.args.state.now.machine c.loop-cycle-2.cycle c.loop-cycle-2.pipe
      c.end_cycle-in-loop-cycle-2.new.self c.loop-cycle-2.state c.end_cycle-in-loop-cycle-2.new.state
      c.loop-placed.exit
      c.placed-all.ensures.sound c.loop-cycle-2.invariant.running c.end_cycle-in-loop-cycle-2.ensures.flight
      c.end_cycle-in-loop-cycle-2.ensures.state;
  within = omega arith;
  noted = c.loop-cycle-2.invariant.noted;
}

pub returns : goal.returns
returns c =
    let length : c.from-length.result ≡ c.args.block.now.cycles = c.from-length.ensures ∙ c.length.ensures.same in
    runs_noted c.args.block.now c.args.state.now.machine c.loop-cycle-2.state.machine c.loop-placed.exit
    c.args.faults.now.items c.loop-placed.faults.items
    (finish c.args.block.now c.args.state.now.machine c.loop-cycle-2.cycle c.loop-cycle-2.pipe
    c.loop-cycle-2.state.machine c.loop-placed.exit c.loop-cycle-2.state.room c.loop-cycle-2.invariant.running
    (omega arith))
    c.loop-cycle-2.invariant.noted
