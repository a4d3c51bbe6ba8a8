use Rattle.std.proofs.Common.{◌≡◌}
use Rattle.std.proofs.lemmas.Result.{err_from_is_err_and}
use Rattle.std.specs.Prelude.{option_map}
use Rattle.std.specs.Option.{option_copied}
use Rattle.c62_rows.proofs.Issuable.{rows_are_issuable}
use Rattle.c62_answer.proofs.Answering.{flight_text, no_flight_named, uncoded_flight}
use Rattle.c62_answer.proofs.exec.exec.Goals as goal

pub flown-requires : goal.flown-requires
flown-requires c = rows_are_issuable c.in_ok-begun.begun.rows c.in_ok-begun.ensures.rows

pub returns-in_err-code : goal.returns-in_err-code
returns-in_err-code c =
    let start = c.args.start.now in
    let p = err_from_is_err_and c.from_residual.result c.from_residual.ensures.1 in
    rw p.1 (uncoded_flight c.args.isa start.course (option_map (λ name. name.items) start.from) start.settings.items
    c.args.text.now
    c.in_err-code.field-0.0 p.0 p.2 c.in_err-code.ensures)

pub returns-in_err-begun : goal.returns-in_err-begun
returns-in_err-begun c =
    let start = c.args.start.now in
    let p = err_from_is_err_and c.from_residual-in_err-begun.result c.from_residual-in_err-begun.ensures.1 in
    rw p.1 (no_flight_named c.args.isa start.course (option_copied c.name_of.result)
    (option_map (λ name. name.items) start.from)
    start.settings.items
    c.args.text.now c.in_ok-code.code.items c.in_err-begun.field-0.0 p.0 c.name_of.ensures c.in_ok-code.ensures p.2
    (rw c.deref.ensures.value at c.in_err-begun.ensures))

pub returns : goal.returns
returns c =
    let start = c.args.start.now in
    let same : c.deref-2.result.now ≡ start.settings.items = c.deref-2.ensures.value in
    flight_text c.args.isa start.course (option_copied c.name_of.result) (option_map (λ name. name.items) start.from)
    start.settings.items c.in_ok-flown.field-0.outcome c.args.text.now c.in_ok-code.code.items
    c.in_ok-flown.field-0.text.items c.in_ok-begun.begun c.name_of.ensures c.in_ok-code.ensures
    (rw c.deref.ensures.value at c.in_ok-begun.ensures) (rw same at c.in_ok-flown.ensures)
