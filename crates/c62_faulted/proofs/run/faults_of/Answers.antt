use Rattle.std.proofs.Common.{◌+◌, ◌≤◌, ◌<◌, length, sym, ◌∙◌, arith}
use Rattle.c62_serial.specs.declared.serial.Exit.TheVariants.{Next, Block, Register}
use Rattle.c62_faulted.proofs.Noting.{noted_block, noted_first, noted_left, noted_over}
use Rattle.c62_faulted.proofs.Parting.{parted_at}
use Rattle.c62_faulted.proofs.run.faults_of.Goals.{then-loop-number-test+else-blocks-limit, else-loop-number-test}
use Rattle.c62_faulted.proofs.run.faults_of.Goals as goal

pub loop-number-init : goal.loop-number-init
loop-number-init c = noted_first c.args.program.now c.args.state.now.machine c.args.limit c.new-faults.result.items
    c.new-faults.ensures.items

pub run_noting-requires : goal.run_noting-requires
run_noting-requires c =
    rw c.deref.ensures.value
    (parted_at _ c.in_ok-parts.parts.items c.blocks-all.result.now c.loop-number.number c.index.result.now
    c.index-all-number.result c.in_ok-parts.ensures c.loop-number-test.true c.index.ensures c.index-all-number.is)

pub returns-in-Register : goal.returns-in-Register
returns-in-Register c =
    noted_left c.args.program.now c.args.state.now.machine c.run_noting.new.state.machine c.in-Register.field-0
    (c.loop-number.blocks + 1) c.args.limit c.run_noting.new.faults.items
    (noted_block c.args.program.now c.blocks-all.result.now c.args.state.now.machine c.loop-number.state.machine
    c.run_noting.new.state.machine c.loop-number.number c.loop-number.blocks c.args.limit c.index-all-number.result
    (Register c.in-Register.field-0) c.loop-number.faults.items c.run_noting.new.faults.items
    c.blocks-all.ensures.same c.loop-number-test.true c.index-all-number.is c.loop-number.invariant
    c.if-blocks-limit.true c.in_ok-exit.ensures.machine (sym c.in-Register.is ∙ c.in_ok-exit.ensures.exit)
    c.in_ok-exit.ensures.faults)

pub loop-number-preserved-in-Next : goal.loop-number-preserved-in-Next
loop-number-preserved-in-Next c =
    noted_block c.args.program.now c.blocks-all.result.now c.args.state.now.machine c.loop-number.state.machine
    c.run_noting.new.state.machine c.loop-number.number c.loop-number.blocks c.args.limit c.index-all-number.result
    Next c.loop-number.faults.items c.run_noting.new.faults.items
    c.blocks-all.ensures.same c.loop-number-test.true c.index-all-number.is c.loop-number.invariant
    c.if-blocks-limit.true c.in_ok-exit.ensures.machine (sym c.in-Next.is ∙ c.in_ok-exit.ensures.exit)
    c.in_ok-exit.ensures.faults

pub loop-number-preserved : goal.loop-number-preserved
loop-number-preserved c =
    rw c.from-number.ensures
    (noted_block c.args.program.now c.blocks-all.result.now c.args.state.now.machine c.loop-number.state.machine
    c.run_noting.new.state.machine c.loop-number.number c.loop-number.blocks c.args.limit c.index-all-number.result
    (Block c.in-Block.target) c.loop-number.faults.items c.run_noting.new.faults.items
    c.blocks-all.ensures.same c.loop-number-test.true c.index-all-number.is c.loop-number.invariant
    c.if-blocks-limit.true c.in_ok-exit.ensures.machine (sym c.in-Block.is ∙ c.in_ok-exit.ensures.exit)
    c.in_ok-exit.ensures.faults)

pub returns : goal.returns
returns c =
    let over : c.loop-number.number < length c.blocks-all.result.now → c.args.limit ≤ c.loop-number.blocks =
    elim c.loop-number-test.branch [
      | then-loop-number-test+else-blocks-limit w ↦ (λ inside. omega (arith, w.if-blocks-limit.false))
      | else-loop-number-test w ↦
          (λ inside. (let past = w.loop-number-test.false in absurd (omega (arith, past, inside))))
    ] in
    noted_over c.args.program.now c.blocks-all.result.now c.args.state.now.machine c.loop-number.state.machine
    c.loop-number.number c.loop-number.blocks c.args.limit c.loop-number.faults.items c.blocks-all.ensures.same
    c.loop-number.invariant over
