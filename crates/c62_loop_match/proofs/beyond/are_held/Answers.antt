use Rattle.std.proofs.Common.{arith, sym}
use Rattle.std.proofs.lemmas.Option.{slice_get_within}
use Rattle.c62_loop_match.specs.Beyond.{IsHeldAt}
use Rattle.c62_loop_match.proofs.Beyonds.{place_more}
use Rattle.c62_loop_match.proofs.beyond.are_held.Goals as goal

pub loop-place-preserved : goal.loop-place-preserved
loop-place-preserved c = place_more (IsHeldAt c.args.most c.args.deep c.args.beyond.now) c.args.entries.now
    c.args.stages.now c.loop-place.place c.index-entries-place.result c.index-stages-place.result
    c.index-entries-place.is c.index-stages-place.is c.if-not-is_held_at.ensures c.loop-place.invariant

pub returns : goal.returns
returns c = record {
  count = sym c.if-entries-stages.false;
  each = λ k entry stage at_e at_s. c.loop-place.invariant k entry stage
      (omega (arith, slice_get_within c.args.entries.now k entry at_e, c.loop-place-test.false)) at_e at_s;
}
