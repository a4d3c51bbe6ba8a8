use Rattle.std.proofs.Common.{◌+◌, refl, sym, ◌∙◌, arith}
use Rattle.c62_serial.specs.declared.serial.Exit.TheVariants.{Next, Block, Register}
use Rattle.c62_serial.specs.declared.chain.End.TheVariants.{Register as ToRegister}
use Rattle.c62_serial.specs.Chain.{Ended}
use Rattle.c62_serial.proofs.ChainLemmas.{first_turn, block_more, program_ends, program_falls_through, program_at_limit}
use Rattle.c62_serial.proofs.chain.run_program.Goals.{In_ok-exit}
use Rattle.c62_serial.proofs.chain.run_program.Goals as goal

pub loop-number-init : goal.loop-number-init
loop-number-init c = first_turn c.args.program.now c.args.state.now.machine c.args.limit

pub returns-then-blocks-limit-clause-ok : goal.returns-then-blocks-limit-clause-ok
returns-then-blocks-limit-clause-ok c =
    rw c.if-blocks-limit.true
    (program_at_limit c.args.program.now c.blocks-all.result.now c.args.state.now.machine
    c.loop-number.state.machine c.loop-number.number c.args.limit
    c.blocks-all.ensures.same c.loop-number-test.true (rw c.if-blocks-limit.true at c.loop-number.invariant))

pub returns-in-Register-clause-ok : goal.returns-in-Register-clause-ok
returns-in-Register-clause-ok c =
    let more = block_more c.args.program.now c.blocks-all.result.now c.args.state.now.machine
    c.loop-number.state.machine c.run_block.new.state.machine
    c.loop-number.blocks c.loop-number.number c.args.limit c.index-all-number.result (Register c.in-Register.value)
    c.blocks-all.ensures.same c.loop-number-test.true c.index-all-number.is c.loop-number.invariant
    c.in_ok-exit.ensures.machine (sym c.in-Register.is ∙ c.in_ok-exit.ensures.exit) in
    program_ends c.args.program.now c.args.state.now.machine c.run_block.new.state.machine more.0
    (Ended (ToRegister c.in-Register.value)) c.args.limit
    (record { blocks = c.loop-number.blocks + 1; stop = ToRegister c.in-Register.value }) more.2
    (let e = more.1 in omega (arith, e, c.loop-number.invariant.within)) (rw more.1 refl)

pub loop-number-preserved-in-Next : goal.loop-number-preserved-in-Next
loop-number-preserved-in-Next c =
    let more = block_more c.args.program.now c.blocks-all.result.now c.args.state.now.machine
    c.loop-number.state.machine c.run_block.new.state.machine
    c.loop-number.blocks c.loop-number.number c.args.limit c.index-all-number.result Next
    c.blocks-all.ensures.same c.loop-number-test.true c.index-all-number.is c.loop-number.invariant
    c.in_ok-exit.ensures.machine (sym c.in-Next.is ∙ c.in_ok-exit.ensures.exit) in
    record {
      numbers = more.0;
      stands = more.2;
      counted = more.1;
      within = omega (arith, c.loop-number.invariant.within);
    }

pub loop-number-preserved : goal.loop-number-preserved
loop-number-preserved c =
    let more = block_more c.args.program.now c.blocks-all.result.now c.args.state.now.machine
    c.loop-number.state.machine c.run_block.new.state.machine
    c.loop-number.blocks c.loop-number.number c.args.limit c.index-all-number.result (Block c.in-Block.target)
    c.blocks-all.ensures.same c.loop-number-test.true c.index-all-number.is c.loop-number.invariant
    c.in_ok-exit.ensures.machine (sym c.in-Block.is ∙ c.in_ok-exit.ensures.exit) in
    rw c.from-number.ensures
    (record {
      numbers = more.0;
      stands = more.2;
      counted = more.1;
      within = omega
          (arith, c.loop-number.invariant.within);
    })

pub returns-clause-ok : goal.returns-clause-ok
returns-clause-ok c =
    program_falls_through c.args.program.now c.blocks-all.result.now c.args.state.now.machine
    c.loop-number.state.machine c.loop-number.number c.loop-number.blocks c.args.limit
    c.blocks-all.ensures.same c.loop-number-test.false c.loop-number.invariant
