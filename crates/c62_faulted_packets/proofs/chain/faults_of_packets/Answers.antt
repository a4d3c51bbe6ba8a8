use Rattle.std.proofs.Common.{◌+◌, ◌≤◌, ◌<◌, length, subst, arith}
use Rattle.c62_serial.specs.declared.serial.Exit.{Exit}
use Rattle.c62_serial.specs.Chain.{position_after}
use Rattle.c62_faulted_packets.proofs.Chains.{IsNoted, noted_block, noted_first, noted_left, noted_over}
use Rattle.c62_faulted_packets.proofs.chain.faults_of_packets.Goals.{then-loop-number-test+else-blocks-limit}
use Rattle.c62_faulted_packets.proofs.chain.faults_of_packets.Goals.{else-loop-number-test}
use Rattle.c62_faulted_packets.proofs.chain.faults_of_packets.Goals as goal

pub loop-number-init : goal.loop-number-init
loop-number-init c = noted_first c.args.packets.now c.args.state.now.machine c.args.limit c.new-faults.result.items
    c.new-faults.ensures.items

pub returns-in-Register : goal.returns-in-Register
returns-in-Register c =
    let P : Exit → Type 0 = λ exit. IsNoted c.args.packets.now c.args.state.now.machine c.run_noting.new.state.machine
    (position_after (length c.args.packets.now) c.loop-number.number exit) (c.loop-number.blocks + 1) c.args.limit
    c.run_noting.new.faults.items in
    noted_left c.args.packets.now c.args.state.now.machine c.run_noting.new.state.machine c.in-Register.field-0
    (c.loop-number.blocks + 1) c.args.limit c.run_noting.new.faults.items
    (subst P c.in-Register.is
    (noted_block c.args.packets.now c.blocks-all.result.now c.args.state.now.machine c.loop-number.state.machine
    c.run_noting.new.state.machine c.loop-number.number c.loop-number.blocks c.args.limit c.index-all-number.result
    c.in_ok-exit.exit c.loop-number.faults.items c.run_noting.new.faults.items
    c.blocks-all.ensures.same c.loop-number-test.true c.index-all-number.is c.loop-number.invariant
    c.if-blocks-limit.true c.in_ok-exit.ensures))

pub loop-number-preserved-in-Next : goal.loop-number-preserved-in-Next
loop-number-preserved-in-Next c =
    let P : Exit → Type 0 = λ exit. IsNoted c.args.packets.now c.args.state.now.machine c.run_noting.new.state.machine
    (position_after (length c.args.packets.now) c.loop-number.number exit) (c.loop-number.blocks + 1) c.args.limit
    c.run_noting.new.faults.items in
    subst P c.in-Next.is
    (noted_block c.args.packets.now c.blocks-all.result.now c.args.state.now.machine c.loop-number.state.machine
    c.run_noting.new.state.machine c.loop-number.number c.loop-number.blocks c.args.limit c.index-all-number.result
    c.in_ok-exit.exit c.loop-number.faults.items c.run_noting.new.faults.items
    c.blocks-all.ensures.same c.loop-number-test.true c.index-all-number.is c.loop-number.invariant
    c.if-blocks-limit.true c.in_ok-exit.ensures)

pub loop-number-preserved : goal.loop-number-preserved
loop-number-preserved c =
    let P : Exit → Type 0 = λ exit. IsNoted c.args.packets.now c.args.state.now.machine c.run_noting.new.state.machine
    (position_after (length c.args.packets.now) c.loop-number.number exit) (c.loop-number.blocks + 1) c.args.limit
    c.run_noting.new.faults.items in
    rw c.from-number.ensures
    (subst P c.in-Block.is
    (noted_block c.args.packets.now c.blocks-all.result.now c.args.state.now.machine c.loop-number.state.machine
    c.run_noting.new.state.machine c.loop-number.number c.loop-number.blocks c.args.limit c.index-all-number.result
    c.in_ok-exit.exit c.loop-number.faults.items c.run_noting.new.faults.items
    c.blocks-all.ensures.same c.loop-number-test.true c.index-all-number.is c.loop-number.invariant
    c.if-blocks-limit.true c.in_ok-exit.ensures))

pub returns : goal.returns
returns c =
    let over : c.loop-number.number < length c.blocks-all.result.now → c.args.limit ≤ c.loop-number.blocks =
    elim c.loop-number-test.branch [
      | then-loop-number-test+else-blocks-limit w ↦ (λ inside. omega (arith, w.if-blocks-limit.false))
      | else-loop-number-test w ↦
          (λ inside. (let past = w.loop-number-test.false in absurd (omega (arith, past, inside))))
    ] in
    noted_over c.args.packets.now c.blocks-all.result.now c.args.state.now.machine c.loop-number.state.machine
    c.loop-number.number c.loop-number.blocks c.args.limit c.loop-number.faults.items c.blocks-all.ensures.same
    c.loop-number.invariant over
