use Rattle.std.proofs.Common.{◌≡◌, true, sym, ap}
use Rattle.c62_insn.specs.declared.action.Action.TheVariants.{Transfer as Transfers}
use Rattle.c62_serial.specs.State.{word_in}
use Rattle.c62_serial.specs.Effect.{Act, runs}
use Rattle.c62_serial.proofs.ActionLemmas.{act_of-action}
use Rattle.c62_apart.proofs.base.access_of.Goals as goal

pub returns-in-Transfer-clause-is : goal.returns-in-Transfer-clause-is
returns-in-Transfer-clause-is c =
    let running : runs (word_in c.args.state.now.machine) c.args.entry.now.insn ≡ true =
    rw c.registers.ensures at (sym c.in_ok-transfer.ensures.runs) in
    let did = act_of-action c.args.entry.now.insn c.args.state.now.machine c.registers.result.now
    (Transfers c.in-Transfer.transfer) c.registers.ensures running
    (rw c.in-Transfer.is at c.in_ok-transfer.ensures.action) in
    rw c.placed.ensures (ap (λ (act : Act). act.access) (sym did))
