use Rattle.std.proofs.Common.{map, sym}
use Rattle.std.proofs.lemmas.Result.{err_from_is_err_and}
use Rattle.c62_command.specs.CommandLine.{LoopVerdicts}
use Rattle.c62_command.specs.Promises.{trips_of}
use Rattle.c62_rows.specs.Rows.{text_of}
use Rattle.c62_answer.proofs.Documented.{loops_documented, refused_too}
use Rattle.c62_answer.proofs.LoopVerdicts.{no_rows, no_text}
use Rattle.c62_answer.proofs.documents.loop_verdicts_document.Goals as goal

pub returns-in_default : goal.returns-in_default
returns-in_default c =
    let trips = map trips_of c.args.promises.now.trips.items in
    let apart = c.args.promises.now.apart.items in
    refused_too c.args.isa (LoopVerdicts trips apart) c.args.input.now c.unparted.result
    (c.unparted.ensures.by_loop trips apart)

pub returns-in_err-program : goal.returns-in_err-program
returns-in_err-program c =
    let trips = map trips_of c.args.promises.now.trips.items in
    let apart = c.args.promises.now.apart.items in
    let p = err_from_is_err_and c.from_residual.result c.from_residual.ensures.1 in
    let parts = c.in-Some.parts in
    let f = c.in_err-program.field-0.0 in
    rw (p.1, p.2) (refused_too c.args.isa (LoopVerdicts trips apart) c.args.input.now f
    (no_text c.args.isa trips apart c.args.input.now
    parts.text.now parts.listing.now c.in-Some.ensures f c.in_err-program.ensures))

pub returns-in_err-read : goal.returns-in_err-read
returns-in_err-read c =
    let trips = map trips_of c.args.promises.now.trips.items in
    let apart = c.args.promises.now.apart.items in
    let p = err_from_is_err_and c.from_residual-in_err-read.result c.from_residual-in_err-read.ensures.1 in
    let parts = c.in-Some.parts in
    let f = c.in_err-read.field-0.0 in
    rw (p.1, p.2) (refused_too c.args.isa (LoopVerdicts trips apart) c.args.input.now f
    (no_rows c.args.isa trips apart c.args.input.now
    parts.text.now parts.listing.now c.in-Some.ensures c.in_ok-program.program c.in_ok-program.ensures
    (sym (rw (c.blocks-2.ensures.same, c.deref.ensures.value) at c.in_default-first_loopless.ensures)) f
    c.in_err-read.ensures))

pub returns : goal.returns
returns c =
    let trips = map trips_of c.args.promises.now.trips.items in
    let apart = c.args.promises.now.apart.items in
    let parts = c.in-Some.parts in
    let program = c.in_ok-program.program in
    let read = c.in_ok-read.read in
    let checked = c.in_ok-checked.checked in
    rw c.of_check.ensures (loops_documented c.args.isa trips apart c.args.input.now parts.text.now parts.listing.now
    checked.text.items program read checked.same checked.plain c.in-Some.ensures c.in_ok-program.ensures
    (sym (rw (c.blocks-2.ensures.same, c.deref.ensures.value) at c.in_default-first_loopless.ensures))
    c.in_ok-read.ensures c.in_ok-checked.ensures
    (c.documents_have_lines.ensures trips apart program (text_of read.rows)))
