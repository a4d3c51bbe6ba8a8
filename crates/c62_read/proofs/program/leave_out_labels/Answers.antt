use Rattle.c62_read.proofs.Common.{sym, map, option_to_list, lines_of, labels_of, asked_of}
use Rattle.c62_line.specs.Line.{label_field}
use Rattle.c62_read.proofs.MissedLemmas.{missed_all, missed_more}
use Rattle.c62_read.proofs.program.leave_out_labels.Goals as goal

pub loop-line-preserved : goal.loop-line-preserved
loop-line-preserved c =
    let more = missed_more (option_to_list (label_field c.in-Some.line.now)) (labels_of (lines_of c.in-Some.after.now))
    (map asked_of c.loop-line.jumps.items) in
    rw (c.leave_out_label.ensures, c.label_field.ensures, ← more)
    (rw c.in-Some.ensures.found at c.loop-line.invariant)

pub returns : goal.returns
returns c = rw (← c.loop-line.invariant, c.in_default.ensures.found) (sym (missed_all _))
