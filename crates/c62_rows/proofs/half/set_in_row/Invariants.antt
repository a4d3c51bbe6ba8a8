use Rattle.c62_rows.specs.Worded.{IsWorded}
use Rattle.c62_rows.proofs.Worded.{AreDone}
use Rattle.c62_rows.proofs.half.set_in_row.Given as goal

abbrev pub invariant-loop-one : goal.invariant-loop-one
invariant-loop-one l = AreDone (IsWorded l.words.entries l.labels.entries) l.initial.placed l.placed l.one-index
