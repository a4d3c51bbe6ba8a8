use Rattle.c62_sheet.proofs.Common.{arith}
use Rattle.c62_sheet.proofs.Sets.{nothing_is}
use Rattle.c62_sheet.proofs.sheet.take_out_all.Goals as goal

pub returns : goal.returns
returns c = nothing_is c.loop-spot.spots _ (omega arith) (λ k lt. c.loop-spot.invariant k (omega arith))
