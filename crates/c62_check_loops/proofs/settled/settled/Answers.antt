use Rattle.c62_rows.specs.Rows.{text_of}
use Rattle.c62_check_loops.proofs.settled.settled.Goals as goal

pub returns-then-branch-clause-told : goal.returns-then-branch-clause-told
returns-then-branch-clause-told c =
    c.in_ok-good_of.ensures.hold (text_of c.args.read.now.rows) c.requires.loops
