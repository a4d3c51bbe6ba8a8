use Rattle.c62_rows.specs.Rows.{text_of}
use Rattle.c62_loop_match.proofs.Rows.{OnWay}
use Rattle.c62_check_rest.proofs.laid.lay_out.Given as goal

abbrev pub invariant-loop-number : goal.invariant-loop-number
invariant-loop-number l = OnWay (text_of l.rows) l.first l.count 0 l.number l.last l.end l.issued.items
