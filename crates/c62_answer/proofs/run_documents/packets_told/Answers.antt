use Rattle.std.proofs.Common.{refl}
use Rattle.c62_answer.proofs.RunsTold.{packets_told}
use Rattle.c62_answer.proofs.run_documents.packets_told.Goals as goal

pub returns : goal.returns
returns c =
    let start = c.args.start.now in
    let ran = c.in_ok-chain in
    packets_told c.args.command.now c.args.packets.now start.settings.items start.course c.of_run.result
    c.in_ok-state.state.machine c.packets_counted.new.state.machine ran.chain ran.cycles ran.counted
    c.push_dumps.new.out.items (rw c.deref.ensures.value at c.in_ok-state.ensures) ran.ensures.run ran.ensures.counted
    (rw (
      c.in_ok-push_dumps.ensures,
      c.in_ok-text.ensures,
      c.as_slice-settings.ensures.value,
      c.tally_of-tally.ensures,
      c.deref-2.ensures.value,
    ) refl)
    (rw (c.of_run.ensures, c.is_limit.ensures, c.faults.ensures.same) refl)
