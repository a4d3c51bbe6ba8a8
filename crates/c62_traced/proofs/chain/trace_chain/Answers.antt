use Rattle.std.proofs.Common.{◌≡◌, ◌∙◌, ◌+◌, ◌<◌, ◌≤◌, length, subst, arith}
use Rattle.c62_serial.specs.declared.serial.Exit.{Exit}
use Rattle.c62_serial.specs.Chain.{position_after}
use Rattle.c62_packet.specs.declared.limits.TheConstants.{MOST_CYCLES}
use Rattle.c62_traced.proofs.Chaining.{IsToldTo, chain_told, told_first, told_block, told_left, told_past, told_limit}
use Rattle.c62_traced.proofs.chain.trace_chain.Goals as goal

pub loop-number-init : goal.loop-number-init
loop-number-init g c =
    told_first g.T.Watch.tells c.args.packets.now c.args.state.now.machine c.args.limit c.args.watch.now
    (g.met.T.Watch.nothing c.args.watch.now)

pub returns-then-blocks-limit : goal.returns-then-blocks-limit
returns-then-blocks-limit g c =
    rw c.if-blocks-limit.true
    (chain_told g.T.Watch.tells c.args.packets.now c.args.state.now.machine c.args.limit _ c.loop-number.cycles
    c.loop-number.state.machine c.args.watch.now c.loop-number.watch
    (told_limit g.T.Watch.tells c.args.packets.now c.args.state.now.machine c.blocks-all.result.now
    c.loop-number.state.machine c.loop-number.number c.loop-number.cycles c.args.limit c.args.watch.now
    c.loop-number.watch
    c.blocks-all.ensures.same c.loop-number-test.true (rw c.if-blocks-limit.true at c.loop-number.invariant)))

pub returns-in-Register : goal.returns-in-Register
returns-in-Register g c =
    let P : Exit → Type 0 = λ exit. IsToldTo g.T.Watch.tells c.args.packets.now c.args.state.now.machine
    c.run_told.new.state.machine (position_after (length c.args.packets.now) c.loop-number.number exit)
    (c.loop-number.blocks + 1) (c.loop-number.cycles + c.from-cycles.result) c.args.limit c.args.watch.now
    c.run_told.new.watch in
    let took : c.from-cycles.result ≡ c.index-all-number.result.cycles = c.from-cycles.ensures ∙ c.length.ensures.same
    in
    let short : c.index-all-number.result.cycles ≤ MOST_CYCLES = c.in_ok-exit.ensures.short in
    let small : c.from-cycles.result ≤ MOST_CYCLES = omega arith in
    let within : c.loop-number.blocks ≤ c.args.limit = c.loop-number.invariant.within in
    let below : c.loop-number.blocks < c.args.limit = omega (arith, c.if-blocks-limit.false) in
    let ran = c.in_ok-exit.ensures.told in
    let told = told_left g.T.Watch.tells c.args.packets.now c.args.state.now.machine c.run_told.new.state.machine
    c.in-Register.value (c.loop-number.blocks + 1) (c.loop-number.cycles + c.from-cycles.result) c.args.limit
    c.args.watch.now c.run_told.new.watch
    (subst P c.in-Register.is
    (told_block g.T.Watch.tells c.args.packets.now c.args.state.now.machine g.met.T.Watch.more c.blocks-all.result.now
    c.loop-number.state.machine c.run_told.new.state.machine c.loop-number.number c.loop-number.blocks
    c.loop-number.cycles
    c.args.limit c.from-cycles.result c.index-all-number.result c.in_ok-exit.exit c.args.watch.now c.loop-number.watch
    c.run_told.new.watch c.blocks-all.ensures.same c.loop-number-test.true c.index-all-number.is
    c.loop-number.invariant below (record { log = ran.0; is = ran.1; told = ran.2 })
    (c.from-cycles.ensures ∙ c.length.ensures.same) small)) in
    (told.log, told.is, told.told)

pub loop-number-preserved-in-Next : goal.loop-number-preserved-in-Next
loop-number-preserved-in-Next g c =
    let P : Exit → Type 0 = λ exit. IsToldTo g.T.Watch.tells c.args.packets.now c.args.state.now.machine
    c.run_told.new.state.machine (position_after (length c.args.packets.now) c.loop-number.number exit)
    (c.loop-number.blocks + 1) (c.loop-number.cycles + c.from-cycles.result) c.args.limit c.args.watch.now
    c.run_told.new.watch in
    let took : c.from-cycles.result ≡ c.index-all-number.result.cycles = c.from-cycles.ensures ∙ c.length.ensures.same
    in
    let short : c.index-all-number.result.cycles ≤ MOST_CYCLES = c.in_ok-exit.ensures.short in
    let small : c.from-cycles.result ≤ MOST_CYCLES = omega arith in
    let within : c.loop-number.blocks ≤ c.args.limit = c.loop-number.invariant.within in
    let below : c.loop-number.blocks < c.args.limit = omega (arith, c.if-blocks-limit.false) in
    let ran = c.in_ok-exit.ensures.told in
    subst P c.in-Next.is
    (told_block g.T.Watch.tells c.args.packets.now c.args.state.now.machine g.met.T.Watch.more c.blocks-all.result.now
    c.loop-number.state.machine c.run_told.new.state.machine c.loop-number.number c.loop-number.blocks
    c.loop-number.cycles
    c.args.limit c.from-cycles.result c.index-all-number.result c.in_ok-exit.exit c.args.watch.now c.loop-number.watch
    c.run_told.new.watch c.blocks-all.ensures.same c.loop-number-test.true c.index-all-number.is
    c.loop-number.invariant below (record { log = ran.0; is = ran.1; told = ran.2 })
    (c.from-cycles.ensures ∙ c.length.ensures.same) small)

pub loop-number-preserved : goal.loop-number-preserved
loop-number-preserved g c =
    let P : Exit → Type 0 = λ exit. IsToldTo g.T.Watch.tells c.args.packets.now c.args.state.now.machine
    c.run_told.new.state.machine (position_after (length c.args.packets.now) c.loop-number.number exit)
    (c.loop-number.blocks + 1) (c.loop-number.cycles + c.from-cycles.result) c.args.limit c.args.watch.now
    c.run_told.new.watch in
    let took : c.from-cycles.result ≡ c.index-all-number.result.cycles = c.from-cycles.ensures ∙ c.length.ensures.same
    in
    let short : c.index-all-number.result.cycles ≤ MOST_CYCLES = c.in_ok-exit.ensures.short in
    let small : c.from-cycles.result ≤ MOST_CYCLES = omega arith in
    let within : c.loop-number.blocks ≤ c.args.limit = c.loop-number.invariant.within in
    let below : c.loop-number.blocks < c.args.limit = omega (arith, c.if-blocks-limit.false) in
    let ran = c.in_ok-exit.ensures.told in
    rw c.from-number.ensures
    (subst P c.in-Block.is
    (told_block g.T.Watch.tells c.args.packets.now c.args.state.now.machine g.met.T.Watch.more c.blocks-all.result.now
    c.loop-number.state.machine c.run_told.new.state.machine c.loop-number.number c.loop-number.blocks
    c.loop-number.cycles
    c.args.limit c.from-cycles.result c.index-all-number.result c.in_ok-exit.exit c.args.watch.now c.loop-number.watch
    c.run_told.new.watch c.blocks-all.ensures.same c.loop-number-test.true c.index-all-number.is
    c.loop-number.invariant below (record { log = ran.0; is = ran.1; told = ran.2 })
    (c.from-cycles.ensures ∙ c.length.ensures.same) small))

pub returns : goal.returns
returns g c =
    let told = told_past g.T.Watch.tells c.args.packets.now c.args.state.now.machine c.blocks-all.result.now
    c.loop-number.state.machine c.loop-number.number c.loop-number.blocks c.loop-number.cycles c.args.limit
    c.args.watch.now c.loop-number.watch c.blocks-all.ensures.same c.loop-number-test.false c.loop-number.invariant in
    (told.log, told.is, told.told)
