use Rattle.c62_rows.proofs.Worded.{AreDone, IsReadWorded}
use Rattle.c62_rows.proofs.half.set_words.Given as goal

abbrev pub invariant-loop-row : goal.invariant-loop-row
invariant-loop-row l = AreDone (IsReadWorded l.words.entries l.labels.entries) l.initial.rows l.rows l.row-index
