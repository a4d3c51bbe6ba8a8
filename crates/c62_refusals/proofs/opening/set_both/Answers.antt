use Rattle.std.proofs.Common.{rules, ◌≡◌, length, arith}
use Rattle.c62_serial.specs.State.{word_in}
use Rattle.c62_refusals.specs.Opening.{word_on}
use Rattle.c62_refusals.proofs.Words.{words_set}
use Rattle.c62_refusals.proofs.opening.set_both.Goals as goal

pub returns-clause-same : goal.returns-clause-same
returns-clause-same c reg same =
    let set = words_set c.args.state.now.machine.registers c.args.number c.word_on.result c.word_on-2.result reg.side
    c.faults.ensures.sound.registers
    c.requires c.word_on.ensures c.word_on-2.ensures in
    grind arith
