use Rattle.std.proofs.Common.{◌≡◌, true, sym, ◌∙◌, ap}
use Rattle.c62_insn.specs.declared.action.Action.TheVariants.{Transfer as Transfers}
use Rattle.c62_serial.specs.State.{word_in}
use Rattle.c62_serial.specs.Effect.{Act, runs}
use Rattle.c62_serial.specs.Serial.{after_act}
use Rattle.c62_serial.proofs.ActionLemmas.{act_of-action}
use Rattle.c62_serial.proofs.serial.run_insn.Goals as goal

pub returns-in-Transfer-clause-machine : goal.returns-in-Transfer-clause-machine
returns-in-Transfer-clause-machine c =
    let running : runs (word_in c.args.state.now.machine) c.args.entry.now.insn ≡ true = rw c.registers.ensures at
    (sym c.in_ok-reg.ensures.runs) in
    let did = act_of-action c.args.entry.now.insn c.args.state.now.machine c.registers.result.now
    (Transfers c.in-Transfer.transfer) c.registers.ensures running
    (rw c.in-Transfer.is at c.in_ok-reg.ensures.action) in
    c.make_transfer.ensures.machine
    ∙ ap (λ (act : Act). after_act c.args.entry.now.line act c.args.state.now.machine) (sym did)
