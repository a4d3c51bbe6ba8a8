use Rattle.c62_answer.proofs.FlyingPart.{rows_fly}
use Rattle.c62_answer.proofs.checking_loops.rows_part.Goals as goal

pub returns-in-Ok-read_rows : goal.returns-in-Ok-read_rows
returns-in-Ok-read_rows c =
    rows_fly c.args.isa c.args.text.now c.in-Ok.code.items c.in-Ok-read_rows.read c.in-Ok.ensures
    (rw c.deref.ensures.value at c.in-Ok-read_rows.ensures)
