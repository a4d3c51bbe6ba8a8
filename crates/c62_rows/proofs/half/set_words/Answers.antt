use Rattle.c62_rows.proofs.Worded.{all_rows_worded}
use Rattle.c62_rows.proofs.half.set_words.Goals as goal

pub returns : goal.returns
returns c =
    all_rows_worded c.args.words.now.entries c.args.labels.now.entries c.args.rows.now c.loop-row.rows
    c.loop-row.row-index c.loop-row.invariant
    c.loop-row-test.false
