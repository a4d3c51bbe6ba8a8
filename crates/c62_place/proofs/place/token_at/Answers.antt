use Rattle.c62_token.proofs.Common.{◌≡◌, ◌+◌, ◌-◌, arith, nat_tests}
use Rattle.std.proofs.lemmas.List.{length-drop, take_rest}
use Rattle.c62_place.proofs.PlaceLemmas.{token_next, token_none}
use Rattle.c62_place.proofs.place.token_at.Goals as goal

pub loop-place-preserved : goal.loop-place-preserved
loop-place-preserved c =
    let first = rw take_rest at c.in-Some.ensures in
    let kept = c.loop-place.invariant in
    let passed : (c.args.before - c.loop-place.left) + 1 ≡ c.args.before - (c.loop-place.left - 1) =
    grind (arith, nat_tests, kept.few, c.if-left-eq0.false) in
    record {
      in_range = omega (arith, kept.in_range, first.0, length-drop c.loop-place.start c.args.line.now);
      few = omega (arith, kept.few);
      there = rw passed at (token_next c.args.line.now c.args.before c.loop-place.start c.in-Some.place kept.in_range
          first _ kept.there);
    }

pub returns : goal.returns
returns c =
    let kept = c.loop-place.invariant in
    token_none _ _ (c.args.before - c.loop-place.left) _ (omega arith) kept.in_range
    (rw take_rest at c.in_default.ensures) kept.there
