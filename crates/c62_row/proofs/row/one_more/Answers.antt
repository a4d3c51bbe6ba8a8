use Rattle.std.proofs.Common.{arith}
use Rattle.c62_row.proofs.Fields.{one-shifted, at-most-one}
use Rattle.c62_row.proofs.row.one_more.Goals as goal

pub sum-requires : goal.sum-requires
sum-requires c = λ j low. omega
    (arith, one-shifted c.args.field j c.requires.within, at-most-one c.args.field j, c.requires.few j low)

pub returns : goal.returns
returns c = λ j low. omega (arith, one-shifted c.args.field j c.requires.within, c.sum.ensures j low)
