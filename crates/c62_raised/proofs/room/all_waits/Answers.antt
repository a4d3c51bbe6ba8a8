use Rattle.std.proofs.Common.{arith}
use Rattle.c62_op.specs.declared.register.Side.TheVariants.{A}
use Rattle.c62_bound.specs.declared.need.Kind.TheVariants.{L as OnL}
use Rattle.std.proofs.lemmas.List.{length-set}
use Rattle.c62_depend.specs.Plan.{insns_of}
use Rattle.c62_raised.specs.declared.room.Room.TheVariants.{Of}
use Rattle.c62_raised.proofs.Orders.{one_more_waits}
use Rattle.c62_raised.proofs.room.all_waits.Goals as goal

pub loop-k-preserved : goal.loop-k-preserved
loop-k-preserved c =
    let known = c.loop-k.invariant in
    record {
      long = omega (arith, length-set c.loop-k.all c.loop-k.k c.waits_of.result, known.long);
      are = one_more_waits (insns_of c.args.plan.now) c.loop-k.k c.loop-k.all c.waits_of.result (Of OnL A) known.long
          c.loop-k-test.true c.waits_of.ensures known.are;
    }
