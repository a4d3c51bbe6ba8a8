use Rattle.std.proofs.Common.{arith}
use Rattle.c62_row.proofs.Words.{no-carry, fits-of, word-clear}
use Rattle.c62_row.proofs.row.Row.fits.Goals as goal

pub sum-requires : goal.sum-requires
sum-requires c = no-carry 0 c.args.self.now c.args.uses.now (omega arith)

pub sum-requires-2 : goal.sum-requires-2
sum-requires-2 c = no-carry 1 c.args.self.now c.args.uses.now (omega arith)

pub sum-requires-3 : goal.sum-requires-3
sum-requires-3 c = no-carry 2 c.args.self.now c.args.uses.now (omega arith)

pub returns : goal.returns
returns c =
    let row = c.args.self.now in
    let uses = c.args.uses.now in (
      (λ h. (let clear = c.are_clear.ensures.0 h in
          fits-of row uses c.sum.result c.sum-2.result c.sum-3.result c.sum.ensures c.sum-2.ensures c.sum-3.ensures
          clear.0 clear.1 clear.2)),
      (λ fits. c.are_clear.ensures.1 (
        word-clear 0 row uses c.sum.result (omega arith) c.sum.ensures fits,
        word-clear 1 row uses c.sum-2.result (omega arith) c.sum-2.ensures fits,
        word-clear 2 row uses c.sum-3.result (omega arith) c.sum-3.ensures fits,
      )),
    )
