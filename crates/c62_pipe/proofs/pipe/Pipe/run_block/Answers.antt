use Rattle.std.proofs.Common.{◌≡◌, ℕ, ◌<◌, List, length, get_or, sym, ◌∙◌, subst, arith}
use Rattle.c62_packet.specs.declared.placed.Placed.{Placed}
use Rattle.c62_pipe.proofs.Running.{begins, ahead, waits, drains, goes_on, ready, in_time, idle, finish}
use Rattle.c62_pipe.proofs.pipe.Pipe.run_block.Goals as goal
use Rattle.std.proofs.lemmas.Bool.Decides.{nat_tests}

-- the instruction that is next
at_item : (block all : List Placed) (i : ℕ) (p : Placed) → all ≡ block → i < length all → p ≡ get_or all i p
    → (i < length block) × (get_or block i p ≡ p)
at_item block all i p e l found = (subst (λ ps. i < length ps) e l, sym (subst (λ ps. p ≡ get_or ps i p) e found))

pub loop-placed-init : goal.loop-placed-init
loop-placed-init c = grind (arith, begins c.args.block.now c.args.state.now c.args.self.now c.room.new.self)

pub loop-cycle-init : goal.loop-cycle-init
loop-cycle-init c = grind (
  arith,
  at_item c.args.block.now.placed c.placed-all.result.now c.loop-placed.placed-index c.placed-item.result
      c.placed-all.ensures.same c.loop-placed-test.true c.placed-item.is,
  ahead c.args.block.now.placed c.args.state.now.machine c.loop-placed.cycle c.loop-placed.placed-index
      c.loop-placed.self c.loop-placed.state.machine c.loop-placed.exit c.loop-placed.state.room c.placed-item.result
      c.loop-placed.invariant.running,
)

pub loop-cycle-preserved : goal.loop-cycle-preserved
loop-cycle-preserved c = grind (arith, nat_tests, at_item, waits)

pub issue-requires-clause-few : goal.issue-requires-clause-few
issue-requires-clause-few c =
    let item = at_item c.args.block.now.placed c.placed-all.result.now c.loop-placed.placed-index c.placed-item.result
    c.placed-all.ensures.same c.loop-placed-test.true c.placed-item.is in
    (ready c.args.block.now c.args.state.now.machine c.loop-cycle.cycle c.loop-placed.placed-index c.loop-cycle.self
    c.loop-cycle.state c.loop-placed.exit c.placed-item.result c.loop-cycle.invariant.running item.0 item.1
    (omega arith)).few

pub issue-requires-clause-fits : goal.issue-requires-clause-fits
issue-requires-clause-fits c =
    let item = at_item c.args.block.now.placed c.placed-all.result.now c.loop-placed.placed-index c.placed-item.result
    c.placed-all.ensures.same c.loop-placed-test.true c.placed-item.is in
    (ready c.args.block.now c.args.state.now.machine c.loop-cycle.cycle c.loop-placed.placed-index c.loop-cycle.self
    c.loop-cycle.state c.loop-placed.exit c.placed-item.result c.loop-cycle.invariant.running item.0 item.1
    (omega arith)).fits

pub loop-placed-preserved : goal.loop-placed-preserved
loop-placed-preserved c = grind (
  arith,
  at_item c.args.block.now.placed c.placed-all.result.now c.loop-placed.placed-index c.placed-item.result
      c.placed-all.ensures.same c.loop-placed-test.true c.placed-item.is,
  in_time c.args.block.now c.loop-placed.placed-index c.placed-item.result c.placed-all.ensures.sound,
  goes_on c.args.block.now c.args.state.now.machine c.loop-cycle.cycle c.loop-placed.placed-index c.loop-cycle.self
      c.issue.new.self c.loop-cycle.state c.issue.new.state c.loop-placed.exit c.exit_after-exit.result c.issue.result
      c.placed-item.result c.placed-all.ensures.sound c.loop-cycle.invariant.running,
)

pub loop-cycle-2-preserved : goal.loop-cycle-2-preserved
loop-cycle-2-preserved c = grind (arith, nat_tests, drains)

pub returns-clause-idle : goal.returns-clause-idle
returns-clause-idle c = grind (
  arith,
  idle c.args.block.now c.args.state.now.machine c.loop-cycle-2.cycle c.loop-cycle-2.self c.loop-cycle-2.state.machine
      c.loop-placed.exit c.loop-cycle-2.state.room c.placed-all.ensures.sound c.loop-cycle-2.invariant.running,
)

pub returns-clause-meaning : goal.returns-clause-meaning
returns-clause-meaning c =
    let length : c.from-length.result ≡ c.args.block.now.cycles = c.from-length.ensures ∙ c.length.ensures.same in
    finish c.args.block.now c.args.state.now.machine c.loop-cycle-2.cycle c.loop-cycle-2.self
    c.loop-cycle-2.state.machine c.loop-placed.exit c.loop-cycle-2.state.room c.loop-cycle-2.invariant.running
    (omega arith)
