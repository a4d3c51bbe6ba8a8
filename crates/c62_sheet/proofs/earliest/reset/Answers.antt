use Rattle.c62_sheet.proofs.Common.{arith, insns_of}
use Rattle.c62_sheet.proofs.Followers.{early-nothing}
use Rattle.c62_sheet.proofs.earliest.reset.Goals as goal

pub returns : goal.returns
returns c = record {
  sized = omega (arith, c.requires, c.loop-cycle.auto.earliest);
  each = λ j low. early-nothing (insns_of c.args.plan.now) j _
      (c.loop-cycle.invariant j
      (omega (arith, low, c.requires, c.loop-cycle.auto.earliest, c.loop-cycle-test.false)));
}
