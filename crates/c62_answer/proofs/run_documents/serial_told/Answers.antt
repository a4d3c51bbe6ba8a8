use Rattle.std.proofs.Common.{refl}
use Rattle.c62_answer.proofs.RunsTold.{serial_told}
use Rattle.c62_answer.proofs.run_documents.serial_told.Goals as goal

pub returns : goal.returns
returns c =
    let start = c.args.start.now in
    let ran = c.in_ok-chain in
    serial_told c.args.program.now start.settings.items start.course c.of_run.result
    c.in_ok-state.state.machine c.serial_counted.new.state.machine ran.chain ran.counted
    c.push_dumps.new.out.items (rw c.deref.ensures.value at c.in_ok-state.ensures) ran.ensures.run ran.ensures.counted
    (rw (
      c.in_ok-push_dumps.ensures,
      c.in_ok-text.ensures,
      c.as_slice-settings.ensures.value,
      c.tally_of-tally.ensures,
      c.deref-2.ensures.value,
    ) refl)
    (rw (c.of_run.ensures, c.is_limit.ensures, c.faults.ensures.same) refl)
