use Rattle.std.proofs.Common.{rules, ◌≡◌, ◌+◌, ◌≤◌, ◌<◌, length, sym, ◌∙◌, arith}
use Rattle.c62_serial.specs.declared.serial.Exit.TheVariants.{Next, Block, Register}
use Rattle.c62_apart.proofs.Running.{seen_block, seen_first, seen_left, seen_over}
use Rattle.c62_apart.proofs.Parting.{parted_at, parts_many}
use Rattle.c62_apart.proofs.run.meetings_of.Goals.{then-loop-number-test+else-blocks-limit, else-loop-number-test}
use Rattle.c62_apart.proofs.run.meetings_of.Goals as goal

pub loop-number-init : goal.loop-number-init
loop-number-init c = seen_first c.args.program.now c.args.regs.now c.args.state.now.machine c.args.limit
    c.first_visit-visit.result c.in_ok-watch.watch.marks.items c.in_ok-watch.watch.met.items
    (search rules) c.in_ok-watch.ensures

pub index-requires : goal.index-requires
index-requires c =
    let many : length c.in_ok-parts.parts.items ≡ length c.blocks-all.result.now =
    parts_many _ c.in_ok-parts.parts.items c.blocks-all.result.now c.in_ok-parts.ensures in
    let inside : c.loop-number.number < length c.in_ok-parts.parts.items = omega
    (arith, many, c.loop-number-test.true) in
    search rules

pub run_watched-requires-clause-parts : goal.run_watched-requires-clause-parts
run_watched-requires-clause-parts c =
    rw c.deref.ensures.value
    (parted_at _ c.in_ok-parts.parts.items c.blocks-all.result.now c.loop-number.number c.index.result.now
    c.index-all-number.result c.in_ok-parts.ensures c.loop-number-test.true c.index.ensures c.index-all-number.is)

pub returns-in-Register : goal.returns-in-Register
returns-in-Register c =
    seen_left c.args.program.now c.args.regs.now c.args.state.now.machine c.run_watched.new.state.machine
    c.in-Register.field-0 (c.loop-number.blocks + 1) c.args.limit c.next_visit-visit.result
    c.run_watched.new.watch.marks.items c.run_watched.new.watch.met.items
    (seen_block c.args.program.now c.blocks-all.result.now c.args.regs.now c.args.state.now.machine
    c.loop-number.state.machine
    c.run_watched.new.state.machine c.loop-number.number c.loop-number.blocks c.args.limit c.index-all-number.result
    (Register c.in-Register.field-0) c.loop-number.visit c.next_visit-visit.result c.loop-number.watch.marks.items
    c.run_watched.new.watch.marks.items c.loop-number.watch.met.items c.run_watched.new.watch.met.items
    c.blocks-all.ensures.same c.loop-number-test.true c.index-all-number.is c.loop-number.invariant
    c.if-blocks-limit.true c.next_visit-visit.ensures c.in_ok-exit.ensures.machine
    (sym c.in-Register.is ∙ c.in_ok-exit.ensures.exit) c.in_ok-exit.ensures.sees)

pub loop-number-preserved-in-Next : goal.loop-number-preserved-in-Next
loop-number-preserved-in-Next c =
    seen_block c.args.program.now c.blocks-all.result.now c.args.regs.now c.args.state.now.machine
    c.loop-number.state.machine
    c.run_watched.new.state.machine c.loop-number.number c.loop-number.blocks c.args.limit c.index-all-number.result
    Next c.loop-number.visit c.next_visit-visit.result c.loop-number.watch.marks.items
    c.run_watched.new.watch.marks.items c.loop-number.watch.met.items c.run_watched.new.watch.met.items
    c.blocks-all.ensures.same c.loop-number-test.true c.index-all-number.is c.loop-number.invariant
    c.if-blocks-limit.true c.next_visit-visit.ensures c.in_ok-exit.ensures.machine
    (sym c.in-Next.is ∙ c.in_ok-exit.ensures.exit) c.in_ok-exit.ensures.sees

pub loop-number-preserved : goal.loop-number-preserved
loop-number-preserved c =
    rw c.from-number.ensures
    (seen_block c.args.program.now c.blocks-all.result.now c.args.regs.now c.args.state.now.machine
    c.loop-number.state.machine
    c.run_watched.new.state.machine c.loop-number.number c.loop-number.blocks c.args.limit c.index-all-number.result
    (Block c.in-Block.target) c.loop-number.visit c.next_visit-visit.result c.loop-number.watch.marks.items
    c.run_watched.new.watch.marks.items c.loop-number.watch.met.items c.run_watched.new.watch.met.items
    c.blocks-all.ensures.same c.loop-number-test.true c.index-all-number.is c.loop-number.invariant
    c.if-blocks-limit.true c.next_visit-visit.ensures c.in_ok-exit.ensures.machine
    (sym c.in-Block.is ∙ c.in_ok-exit.ensures.exit) c.in_ok-exit.ensures.sees)

pub returns : goal.returns
returns c =
    let over : c.loop-number.number < length c.blocks-all.result.now → c.args.limit ≤ c.loop-number.blocks =
    elim c.loop-number-test.branch [
      | then-loop-number-test+else-blocks-limit w ↦ (λ inside. omega (arith, w.if-blocks-limit.false))
      | else-loop-number-test w ↦
          (λ inside. (let past = w.loop-number-test.false in absurd (omega (arith, past, inside))))
    ] in
    seen_over c.args.program.now c.blocks-all.result.now c.args.regs.now c.args.state.now.machine
    c.loop-number.state.machine
    c.loop-number.number c.loop-number.blocks c.args.limit c.loop-number.visit c.loop-number.watch.marks.items
    c.loop-number.watch.met.items c.blocks-all.ensures.same c.loop-number.invariant over
