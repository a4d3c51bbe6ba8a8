use Rattle.c62_depend.proofs.Common.{arith, ◌≡◌, ◌<◌, ◌+◌, ◌*◌, ◌^◌, ◌%◌, length, refl, sym, slice_index}
use Rattle.c62_depend.proofs.Common.{trailing_zeros}
use Rattle.std.proofs.Common.{rules, ◌/◌, w64}
use Rattle.c62_depend.proofs.NumberSets.{lowest_from, place_within, next_is, none_to, none_further, none_behind}
use Rattle.c62_depend.proofs.number_set.NumberSet.next.Goals as goal

pub returns-then-rest-ne0 : goal.returns-then-rest-ne0
returns-then-rest-ne0 c =
    let words = c.args.self.words in
    let at = c.loop-at.at in
    let behind = c.loop-at.invariant.behind in
    let fits : slice_index words (at / 64) < 2 ^ 64 = search rules in
    let some : 0 < slice_index words (at / 64) / 2 ^ (at % 64) = omega (arith, c.if-rest-ne0.true) in
    let low = lowest_from (slice_index words (at / 64)) (at % 64) fits some in
    let within = place_within words c.args.from at _ fits low in
    record {
      behind = omega arith;
      within = omega (arith, c.loop-at-test.true);
      is_in = next_is words c.args.from at _ fits low;
      none = none_to words c.args.from at _ c.loop-at.invariant.none fits low;
    }

pub loop-at-preserved : goal.loop-at-preserved
loop-at-preserved c =
    let behind = c.loop-at.invariant.behind in
    record {
      behind = omega arith;
      none = none_further c.args.self.words c.args.from c.loop-at.at c.loop-at.invariant.none
          (omega (arith, c.if-rest-ne0.false));
    }

pub returns : goal.returns
returns c =
    none_behind c.args.self.words c.args.from c.loop-at.at (search rules) c.loop-at.invariant.none
    (omega (arith, c.loop-at-test.false))
