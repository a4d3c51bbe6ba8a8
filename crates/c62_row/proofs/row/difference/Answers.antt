use Rattle.std.proofs.Common.{arith}
use Rattle.c62_row.proofs.Fields.{count-difference, no-greater}
use Rattle.c62_row.proofs.row.difference.Goals as goal

pub returns : goal.returns
returns c = λ j low. count-difference c.args.one c.args.other j low (omega (arith, c.ranges.other.fits)) c.requires

pub overflow_sub-result : goal.overflow_sub-result
overflow_sub-result c = no-greater c.args.one c.args.other (omega (arith, c.ranges.other.fits)) c.requires
