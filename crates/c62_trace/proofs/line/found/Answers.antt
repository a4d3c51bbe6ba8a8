use Rattle.std.proofs.Common.{◌≡◌, true, Some, sym, ◌∙◌, ap, ℕ}
use Rattle.c62_insn.specs.declared.action.Action.TheVariants.{Transfer as Transfers}
use Rattle.c62_serial.specs.State.{word_in}
use Rattle.c62_serial.specs.Effect.{Act, runs}
use Rattle.c62_serial.proofs.ActionLemmas.{act_of-action}
use Rattle.c62_trace.proofs.line.found.Goals as goal

pub returns-in-Some-Transfer-clause-access : goal.returns-in-Some-Transfer-clause-access
returns-in-Some-Transfer-clause-access c =
    let running : runs (word_in c.args.state.now.machine) c.args.placed.now.insn ≡ true =
    rw c.registers.ensures at (sym c.in-Some-Transfer.ensures.runs) in
    let did = act_of-action c.args.placed.now.insn c.args.state.now.machine c.registers.result.now
    (Transfers c.in-Some-Transfer.transfer) c.registers.ensures running
    (rw c.in-Some-Transfer.field-0-is at c.in-Some-Transfer.ensures.action) in
    ap (λ (place : ℕ). Some (record c.in-Some-Transfer.transfer.access { address = place })) c.place.ensures
    ∙ sym (ap (λ (act : Act). act.access) did)
