use Rattle.std.proofs.Common.{arith}
use Rattle.c62_row.proofs.Fields.{count-sum, sum-fits}
use Rattle.c62_row.proofs.row.sum.Goals as goal

pub returns : goal.returns
returns c = λ j low. count-sum c.args.one c.args.other j (λ k le. c.requires k (omega (arith, low, le)))

pub overflow_add-result : goal.overflow_add-result
overflow_add-result c = record {
  fits = sum-fits c.args.one c.args.other (omega (arith, c.ranges.one.fits))
      (omega (arith, c.ranges.other.fits)) c.requires;
}
