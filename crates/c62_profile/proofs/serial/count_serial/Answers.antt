use Rattle.std.proofs.Common.{◌≤◌, ◌<◌, length, subst, rules}
use Rattle.c62_serial.specs.declared.serial.Exit.{Exit}
use Rattle.c62_serial.specs.declared.chain.End.TheVariants.{Register as ToRegister}
use Rattle.c62_serial.specs.Chain.{Ended, position_after}
use Rattle.c62_serial.specs.Chain.{serial_blocks}
use Rattle.c62_profile.specs.Visits.{insns_each}
use Rattle.c62_profile.proofs.Turns.{Turn, ends_at_limit, ends_past, first_turn, turn_ends}
use Rattle.c62_profile.proofs.Counting.{serial_more}
use Rattle.c62_profile.proofs.serial.count_serial.Goals as goal

pub loop-number-init : goal.loop-number-init
loop-number-init c =
    let none = c.in_ok-tally.ensures.visits in
    rw (c.in_ok-tally.ensures.blocks, c.in_ok-tally.ensures.taken)
    (first_turn (length c.args.program.now) (serial_blocks c.args.program.now) (insns_each c.args.program.now)
    c.args.state.now.machine c.in_ok-tally.tally.visits.items c.args.limit
    (rw c.blocks-all.ensures.same at none))

pub returns-then-tally-limit : goal.returns-then-tally-limit
returns-then-tally-limit c =
    let inside : c.loop-number.number < length c.args.program.now = rw (← c.blocks-all.ensures.same)
    c.loop-number-test.true in
    ends_at_limit (length c.args.program.now) (serial_blocks c.args.program.now) (insns_each c.args.program.now)
    c.args.state.now.machine c.loop-number.state.machine c.loop-number.number c.args.limit c.ended.result
    c.loop-number.tally
    inside c.loop-number.invariant c.if-tally-limit.true c.ended.ensures

pub returns-in-Register : goal.returns-in-Register
returns-in-Register c =
    let P : Exit → Type 0 = λ exit. Turn (length c.args.program.now) (serial_blocks c.args.program.now)
    (insns_each c.args.program.now) c.args.state.now.machine c.run_block.new.state.machine
    (position_after (length c.args.program.now) c.loop-number.number exit)
    c.add.new.self.blocks c.add.new.self.taken c.add.new.self.visits.items c.args.limit in
    let turn = subst P c.in-Register.is
    (serial_more c.args.program.now c.blocks-all.result.now c.args.state.now.machine c.loop-number.state.machine
    c.run_block.new.state.machine c.loop-number.number c.loop-number.tally.blocks
    c.loop-number.tally.taken c.insns_of.result c.args.limit c.loop-number.tally.visits.items c.index-all-number.result
    c.index-all-number-in-loop-number.result c.in_ok-exit.exit c.add.new.self
    c.blocks-all.ensures.same c.loop-number-test.true c.index-all-number.is c.index-all-number-in-loop-number.is
    c.insns_of.ensures (search rules) c.loop-number.invariant c.if-tally-limit.false
    c.in_ok-exit.ensures.machine c.in_ok-exit.ensures.exit c.add.ensures.blocks c.add.ensures.taken
    c.add.ensures.visits) in
    turn_ends (length c.args.program.now) (serial_blocks c.args.program.now) (insns_each c.args.program.now)
    c.args.state.now.machine c.run_block.new.state.machine (Ended (ToRegister c.in-Register.value)) c.args.limit
    c.ended-in-Register.result c.add.new.self
    turn turn.within c.ended-in-Register.ensures

pub loop-number-preserved-in-Next : goal.loop-number-preserved-in-Next
loop-number-preserved-in-Next c =
    let P : Exit → Type 0 = λ exit. Turn (length c.args.program.now) (serial_blocks c.args.program.now)
    (insns_each c.args.program.now) c.args.state.now.machine c.run_block.new.state.machine
    (position_after (length c.args.program.now) c.loop-number.number exit)
    c.add.new.self.blocks c.add.new.self.taken c.add.new.self.visits.items c.args.limit in
    subst P c.in-Next.is (serial_more c.args.program.now c.blocks-all.result.now c.args.state.now.machine
    c.loop-number.state.machine c.run_block.new.state.machine c.loop-number.number c.loop-number.tally.blocks
    c.loop-number.tally.taken c.insns_of.result c.args.limit c.loop-number.tally.visits.items c.index-all-number.result
    c.index-all-number-in-loop-number.result c.in_ok-exit.exit c.add.new.self
    c.blocks-all.ensures.same c.loop-number-test.true c.index-all-number.is c.index-all-number-in-loop-number.is
    c.insns_of.ensures (search rules) c.loop-number.invariant c.if-tally-limit.false
    c.in_ok-exit.ensures.machine c.in_ok-exit.ensures.exit c.add.ensures.blocks c.add.ensures.taken
    c.add.ensures.visits)

pub loop-number-preserved : goal.loop-number-preserved
loop-number-preserved c =
    let P : Exit → Type 0 = λ exit. Turn (length c.args.program.now) (serial_blocks c.args.program.now)
    (insns_each c.args.program.now) c.args.state.now.machine c.run_block.new.state.machine
    (position_after (length c.args.program.now) c.loop-number.number exit)
    c.add.new.self.blocks c.add.new.self.taken c.add.new.self.visits.items c.args.limit in
    rw c.from-number.ensures
    (subst P c.in-Block.is
    (serial_more c.args.program.now c.blocks-all.result.now c.args.state.now.machine c.loop-number.state.machine
    c.run_block.new.state.machine c.loop-number.number c.loop-number.tally.blocks
    c.loop-number.tally.taken c.insns_of.result c.args.limit c.loop-number.tally.visits.items c.index-all-number.result
    c.index-all-number-in-loop-number.result c.in_ok-exit.exit c.add.new.self
    c.blocks-all.ensures.same c.loop-number-test.true c.index-all-number.is c.index-all-number-in-loop-number.is
    c.insns_of.ensures (search rules) c.loop-number.invariant c.if-tally-limit.false
    c.in_ok-exit.ensures.machine c.in_ok-exit.ensures.exit c.add.ensures.blocks c.add.ensures.taken
    c.add.ensures.visits))

pub returns : goal.returns
returns c =
    let beyond : length c.args.program.now ≤ c.loop-number.number = rw (← c.blocks-all.ensures.same)
    c.loop-number-test.false in
    ends_past (length c.args.program.now) (serial_blocks c.args.program.now) (insns_each c.args.program.now)
    c.args.state.now.machine c.loop-number.state.machine c.loop-number.number c.args.limit c.ended-2.result
    c.loop-number.tally
    beyond c.loop-number.invariant c.ended-2.ensures
