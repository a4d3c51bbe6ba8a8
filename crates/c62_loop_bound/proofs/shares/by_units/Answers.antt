use Rattle.std.proofs.Common.{◌≡◌, rules}
use Rattle.c62_insn.specs.declared.unit_set.UnitSet.{UnitSet}
use Rattle.c62_pair.specs.Uses.{insns_in}
use Rattle.c62_loop_bound.specs.declared.share.Share.TheVariants.{Units}
use Rattle.c62_loop_bound.specs.Steps.{Covers}
use Rattle.c62_loop_bound.proofs.Greatest.{covers_more, one_set_more}
use Rattle.c62_loop_bound.proofs.shares.by_units.Goals as goal

pub loop-bits-preserved : goal.loop-bits-preserved
loop-bits-preserved c =
    let body = insns_in c.args.work.now in
    let set = c.from_bits_retain-set.result in
    let number : set.0 ≡ c.loop-bits.bits = search rules in (
      c.with-least.ensures.low,
      c.with-least.ensures.found,
      one_set_more (λ (set : UnitSet). Covers c.args.counter body (Units set) c.with-least.result) c.loop-bits.bits set
          number c.with-least.ensures.covers
          (λ (set : UnitSet) below. covers_more c.args.counter body (Units set) c.loop-bits.least c.with-least.result
          (c.loop-bits.invariant.2 set below) c.with-least.ensures.least),
    )
