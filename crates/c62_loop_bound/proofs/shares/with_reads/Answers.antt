use Rattle.std.proofs.Common.{arith, refl}
use Rattle.c62_op.specs.declared.register.Reg.{Reg}
use Rattle.c62_pair.specs.Uses.{insns_in}
use Rattle.c62_loop_bound.specs.declared.share.Share.TheVariants.{Reads}
use Rattle.c62_loop_bound.specs.Steps.{Covers}
use Rattle.c62_loop_bound.proofs.Greatest.{covers_more, one_register_more}
use Rattle.c62_loop_bound.proofs.shares.with_reads.Goals as goal

pub loop-number-preserved : goal.loop-number-preserved
loop-number-preserved c =
    let body = insns_in c.args.work.now in
    let inside = c.loop-number-test.true in
    let reg : Reg = record { side = c.args.side; number = c.loop-number.number; in_range = inside } in (
      c.with-most.ensures.low,
      c.with-most.ensures.found,
      omega (arith, c.loop-number.invariant.2, c.with-most.ensures.least),
      one_register_more (λ (reg : Reg). Covers c.args.counter body (Reads reg) c.with-most.result) c.loop-number.number
          reg refl c.with-most.ensures.covers
          (λ (reg : Reg) on below. covers_more c.args.counter body (Reads reg) c.loop-number.most c.with-most.result
          (c.loop-number.invariant.3 reg on below) c.with-most.ensures.least),
    )
