use Rattle.std.proofs.Common.{map, sym}
use Rattle.std.proofs.lemmas.Result.{err_from_is_err_and}
use Rattle.c62_command.specs.Promises.{trips_of}
use Rattle.c62_answer.proofs.LoopVerdicts.{loops_told, no_rows, no_text}
use Rattle.c62_answer.proofs.checking_loops.loop_verdicts.Goals as goal

pub returns-in_default : goal.returns-in_default
returns-in_default c =
    c.unparted.ensures.by_loop (map trips_of c.args.promises.now.trips.items) c.args.promises.now.apart.items

pub returns-in_err-program : goal.returns-in_err-program
returns-in_err-program c =
    let p = err_from_is_err_and c.from_residual.result c.from_residual.ensures.1 in
    let parts = c.in-Some.parts in
    rw (p.1, p.2) (no_text c.args.isa (map trips_of c.args.promises.now.trips.items) c.args.promises.now.apart.items
    c.args.input.now parts.text.now parts.listing.now c.in-Some.ensures c.in_err-program.field-0.0
    c.in_err-program.ensures)

pub returns-in_err-read : goal.returns-in_err-read
returns-in_err-read c =
    let p = err_from_is_err_and c.from_residual-in_err-read.result c.from_residual-in_err-read.ensures.1 in
    let parts = c.in-Some.parts in
    rw (p.1, p.2) (no_rows c.args.isa (map trips_of c.args.promises.now.trips.items) c.args.promises.now.apart.items
    c.args.input.now parts.text.now parts.listing.now c.in-Some.ensures c.in_ok-program.program
    c.in_ok-program.ensures
    (sym (rw (c.blocks-2.ensures.same, c.deref.ensures.value) at c.in_default-first_loopless.ensures))
    c.in_err-read.field-0.0 c.in_err-read.ensures)

pub returns : goal.returns
returns c =
    let parts = c.in-Some.parts in
    let checked = c.in_ok-checked.checked in
    loops_told c.args.isa
    (map trips_of c.args.promises.now.trips.items) c.args.promises.now.apart.items c.args.input.now
    parts.text.now parts.listing.now checked.text.items c.in_ok-program.program c.in_ok-read.read checked.same
    checked.plain c.of_check.result c.in-Some.ensures c.in_ok-program.ensures
    (sym (rw (c.blocks-2.ensures.same, c.deref.ensures.value) at c.in_default-first_loopless.ensures))
    c.in_ok-read.ensures c.in_ok-checked.ensures c.of_check.ensures
