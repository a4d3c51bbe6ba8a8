use Rattle.std.proofs.Common.{arith}
use Rattle.c62_row.proofs.Fields.{all-clear, first-high}
use Rattle.c62_row.proofs.row.first_high.Goals as goal

pub returns-then-high-eq0 : goal.returns-then-high-eq0
returns-then-high-eq0 c = λ j low. all-clear c.args.word (omega (arith, c.if-high-eq0.true)) j low

pub returns-else-high-eq0 : goal.returns-else-high-eq0
returns-else-high-eq0 c = first-high c.args.word (omega (arith, c.if-high-eq0.false))
