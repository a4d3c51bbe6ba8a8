use Rattle.std.proofs.Common.{refl}
use Rattle.std.specs.Prelude.{option_map}
use Rattle.c62_rows.specs.Rows.{text_of}
use Rattle.c62_answer.proofs.RunsTold.{flight_told}
use Rattle.c62_answer.proofs.run_documents.flight_told.Goals as goal

pub returns : goal.returns
returns c =
    let begun = c.args.begun.now in
    let ran = c.in_ok-flown in
    flight_told c.args.command.now (text_of begun.rows) begun.labels.entries begun.first c.args.settings.now
    c.args.course c.of_run.result c.in_ok-state.state.machine c.flight_counted.new.state.machine ran.flown.stop
    ran.flown.cycles (option_map (λ counts. counts.items) ran.counted) c.push_dumps.new.out.items
    c.in_ok-state.ensures ran.ensures.flies ran.ensures.counted
    (rw (c.in_ok-push_dumps.ensures, c.in_ok-text.ensures, c.counts_of-counts.ensures) refl)
    (rw (c.of_run.ensures, c.is_flight_limit.ensures, c.faults.ensures.same) refl)
