use Rattle.std.proofs.Common.{◌≡◌, sym, ◌∙◌, ap, rules}
use Rattle.c62_serial.specs.Serial.{Ran, serial, exit_to}
use Rattle.c62_serial.proofs.BranchLemmas.{ran_whole}
use Rattle.c62_serial.proofs.serial.run_block.Goals as goal

whole : (c : goal.After-from)
    → serial c.args.block.now.insns c.args.state.now.machine ≡ record
    { machine = c.run_insn.new.state.machine; exit = exit_to c.in-Some.target }
whole c =
    ran_whole c.args.block.now.insns c.insns-insns.result.now c.args.state.now.machine c.loop-entry.state.machine
    c.run_insn.new.state.machine
    c.loop-entry.entry-index c.entry-item.result c.in-Some.target c.insns-insns.ensures.same (search rules)
    c.loop-entry-test.true c.entry-item.is
    c.loop-entry.invariant.ran c.run_insn.ensures.machine (sym c.run_insn.ensures.target ∙ c.in-Some.is)

pub returns-in-Some-clause-machine : goal.returns-in-Some-clause-machine
returns-in-Some-clause-machine c = sym (ap (λ (ran : Ran). ran.machine) (whole c))

pub returns-in-Some-clause-exit : goal.returns-in-Some-clause-exit
returns-in-Some-clause-exit c = c.from.ensures ∙ sym (ap (λ (ran : Ran). ran.exit) (whole c))
