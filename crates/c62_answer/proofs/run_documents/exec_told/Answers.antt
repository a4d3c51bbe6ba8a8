use Rattle.std.proofs.Common.{◌≡◌}
use Rattle.std.proofs.lemmas.Result.{err_from_is_err_and}
use Rattle.std.specs.Prelude.{option_map}
use Rattle.std.specs.Option.{option_copied}
use Rattle.c62_rows.proofs.Issuable.{rows_are_issuable}
use Rattle.c62_command.specs.CommandLine.{FlightReport}
use Rattle.c62_answer.proofs.Answering.{no_flight_named, uncoded_flight}
use Rattle.c62_answer.proofs.Documented.{refused_too}
use Rattle.c62_answer.proofs.RunsDocumented.{exec_documented}
use Rattle.c62_answer.proofs.run_documents.exec_told.Goals as goal

pub flight_told-requires : goal.flight_told-requires
flight_told-requires c = rows_are_issuable c.in_ok-begun.begun.rows c.in_ok-begun.ensures.rows

pub returns-in_err-code : goal.returns-in_err-code
returns-in_err-code c =
    let start = c.args.start.now in
    let from = option_map (λ name. name.items) start.from in
    let p = err_from_is_err_and c.from_residual.result c.from_residual.ensures.1 in
    rw p.1 (refused_too c.args.isa (FlightReport start.course from start.settings.items) c.args.text.now p.0
    (uncoded_flight c.args.isa start.course from start.settings.items c.args.text.now c.in_err-code.field-0.0 p.0 p.2
    c.in_err-code.ensures))

pub returns-in_err-begun : goal.returns-in_err-begun
returns-in_err-begun c =
    let start = c.args.start.now in
    let from = option_map (λ name. name.items) start.from in
    let p = err_from_is_err_and c.from_residual-in_err-begun.result c.from_residual-in_err-begun.ensures.1 in
    rw p.1 (refused_too c.args.isa (FlightReport start.course from start.settings.items) c.args.text.now p.0
    (no_flight_named c.args.isa start.course (option_copied c.name_of.result) from start.settings.items
    c.args.text.now c.in_ok-code.code.items c.in_err-begun.field-0.0 p.0 c.name_of.ensures c.in_ok-code.ensures p.2
    (rw c.deref.ensures.value at c.in_err-begun.ensures)))

pub returns : goal.returns
returns c =
    let start = c.args.start.now in
    let same : c.deref-2.result.now ≡ start.settings.items = c.deref-2.ensures.value in
    exec_documented c.args.isa start.course (option_copied c.name_of.result)
    (option_map (λ name. name.items) start.from)
    start.settings.items c.in_ok-flight_told.field-0.outcome c.args.text.now c.in_ok-code.code.items
    c.in_ok-flight_told.field-0.text.items c.in_ok-begun.begun c.name_of.ensures c.in_ok-code.ensures
    (rw c.deref.ensures.value at c.in_ok-begun.ensures) (rw same at c.in_ok-flight_told.ensures)
