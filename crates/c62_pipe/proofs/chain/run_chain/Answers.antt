use Rattle.std.proofs.Common.{arith}
use Rattle.c62_pipe.proofs.Chains.{first_turn, block_more, packets_end, packets_fall_through, packets_at_limit}
use Rattle.c62_pipe.proofs.chain.run_chain.Goals as goal

pub loop-number-init : goal.loop-number-init
loop-number-init c = grind (arith, first_turn c.args.packets.now c.args.state.now.machine c.args.limit)

pub returns-then-blocks-limit-clause-ok : goal.returns-then-blocks-limit-clause-ok
returns-then-blocks-limit-clause-ok c =
    rw c.if-blocks-limit.true
    (packets_at_limit c.args.packets.now c.blocks-all.result.now c.args.state.now.machine
    c.loop-number.state.machine c.loop-number.number c.loop-number.cycles c.args.limit
    c.blocks-all.ensures.same c.loop-number-test.true (rw c.if-blocks-limit.true at c.loop-number.invariant.turn))

pub returns-in-Register-clause-ok : goal.returns-in-Register-clause-ok
returns-in-Register-clause-ok c = grind (
  arith,
  block_more c.args.packets.now c.blocks-all.result.now c.args.state.now.machine c.loop-number.state.machine
      c.run_block.new.state.machine c.loop-number.blocks c.loop-number.number c.loop-number.cycles c.args.limit
      c.from-cycles.result c.index-all-number.result c.in_ok-exit.exit c.blocks-all.ensures.same
      c.loop-number-test.true c.index-all-number.is c.loop-number.invariant.turn c.in_ok-exit.ensures.meaning,
  packets_end c.args.packets.now c.args.state.now.machine c.run_block.new.state.machine,
)

pub loop-number-preserved-in-Next : goal.loop-number-preserved-in-Next
loop-number-preserved-in-Next c = grind (
  arith,
  block_more c.args.packets.now c.blocks-all.result.now c.args.state.now.machine c.loop-number.state.machine
      c.run_block.new.state.machine c.loop-number.blocks c.loop-number.number c.loop-number.cycles c.args.limit
      c.from-cycles.result c.index-all-number.result c.in_ok-exit.exit c.blocks-all.ensures.same
      c.loop-number-test.true c.index-all-number.is c.loop-number.invariant.turn c.in_ok-exit.ensures.meaning,
)

pub loop-number-preserved : goal.loop-number-preserved
loop-number-preserved c = grind (
  arith,
  block_more c.args.packets.now c.blocks-all.result.now c.args.state.now.machine c.loop-number.state.machine
      c.run_block.new.state.machine c.loop-number.blocks c.loop-number.number c.loop-number.cycles c.args.limit
      c.from-cycles.result c.index-all-number.result c.in_ok-exit.exit c.blocks-all.ensures.same
      c.loop-number-test.true c.index-all-number.is c.loop-number.invariant.turn c.in_ok-exit.ensures.meaning,
)

pub returns-clause-ok : goal.returns-clause-ok
returns-clause-ok c =
    packets_fall_through c.args.packets.now c.blocks-all.result.now c.args.state.now.machine c.loop-number.state.machine
    c.loop-number.number c.loop-number.blocks c.loop-number.cycles c.args.limit
    c.blocks-all.ensures.same c.loop-number-test.false c.loop-number.invariant.turn
