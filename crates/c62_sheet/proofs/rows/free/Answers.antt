use Rattle.c62_sheet.proofs.Common.{insns_of, IsAt, get_or}
use Rattle.c62_sheet.proofs.RowsOf.{within_rows, row_within, rows_withdrawn}
use Rattle.c62_sheet.proofs.rows.free.Goals as goal

pub remove-requires : goal.remove-requires
remove-requires c =
    let block = insns_of c.args.plan.now in
    let is : IsAt c.args.spots.now c.args.i c.in-Some.spot = rw (← c.from.ensures) c.in-Some.is in
    let lt = within_rows block c.args.spots.now c.args.i c.in-Some.spot c.insn.result c.args.rows.now c.requires.lawful
    c.requires.rows c.insn.ensures is in
    rw c.from-in-Some.ensures
    (row_within block c.args.spots.now c.args.i c.in-Some.spot c.insn.result c.args.rows.now c.requires.lawful
    c.requires.rows c.insn.ensures is
    (get_or c.args.rows.now c.in-Some.spot.cycle c.index-rows-from.result) c.of.result
    (c.requires.rows.each c.in-Some.spot.cycle c.index-rows-from.result lt) c.of.ensures)

pub returns-in-Some : goal.returns-in-Some
returns-in-Some c =
    let block = insns_of c.args.plan.now in
    let is : IsAt c.args.spots.now c.args.i c.in-Some.spot = rw (← c.from.ensures) c.in-Some.is in
    rows_withdrawn block c.args.spots.now c.args.i c.in-Some.spot c.insn.result c.args.rows.now c.requires.lawful
    c.requires.rows c.insn.ensures is
    c.from-in-Some.result _ c.remove.new.self c.of.result c.from-in-Some.ensures c.of.ensures c.remove.ensures
