use Rattle.std.proofs.Common.{arith}
use Rattle.c62_modulo.proofs.Shortest.{none_is_shorter}
use Rattle.c62_modulo.proofs.made.Made.shortness.Goals as goal

pub returns-then-self : goal.returns-then-self
returns-then-self c = λ promise region trips longest made.
    let found = c.args.self.now in
    none_is_shorter promise region found.least found.interval made.least c.if-self.true

pub returns-else-self : goal.returns-else-self
returns-else-self c = λ promise region trips longest made.
    let found = c.args.self.now in
    (none_is_shorter promise region found.least found.least made.least (omega arith), c.if-self.false)
