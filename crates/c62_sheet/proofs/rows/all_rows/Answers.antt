use Rattle.c62_sheet.proofs.Common.{arith, rules, ◌≡◌, ◌*◌, insns_of, many_insns}
use Rattle.std.specs.Prelude.{replicate}
use Rattle.c62_sheet.proofs.RowsOf.{rows_of_copies}
use Rattle.c62_sheet.proofs.rows.all_rows.Goals as goal

pub returns : goal.returns
returns c =
    let made : c.in_ok-rows.rows.items ≡ replicate (5 * c.from.result) c.new.result = search rules in
    rw made (rows_of_copies (insns_of c.args.plan.now) c.new.result (5 * c.from.result) (omega (arith, many_insns))
    c.new.ensures)
