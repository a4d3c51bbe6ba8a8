use Rattle.c62_sheet.proofs.Common.{arith, insns_of}
use Rattle.c62_sheet.proofs.RowsOf.{rows_placed}
use Rattle.c62_sheet.proofs.rows.take.Goals as goal

pub returns : goal.returns
returns c =
    rows_placed (insns_of c.args.plan.now) c.args.spots.now c.args.i c.args.spot c.insn.result c.args.rows.now
    c.from.result _ c.add.new.self c.of.result
    c.requires.sized c.requires.rows c.insn.ensures c.requires.free c.from.ensures
    (omega (arith, c.requires.rows.sized, c.requires.within)) c.of.ensures c.add.ensures
