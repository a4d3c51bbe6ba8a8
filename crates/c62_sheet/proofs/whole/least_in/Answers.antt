use Rattle.c62_sheet.proofs.Common.{arith, insns_of, many_insns}
use Rattle.c62_sheet.proofs.RowsOf.{rows_of_copies}
use Rattle.c62_sheet.proofs.whole.least_in.Goals as goal

pub take_all-requires-clause-free : goal.take_all-requires-clause-free
take_all-requires-clause-free c = rows_of_copies (insns_of c.args.plan.now) c.new-rows.result 1280
    (omega (arith, many_insns, c.len.ensures.sound.few)) c.new-rows.ensures
