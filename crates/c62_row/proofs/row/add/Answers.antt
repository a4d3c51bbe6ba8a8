use Rattle.std.proofs.Common.{arith, ◌≡◌, ℕ, ◌+◌, ◌*◌, ◌%◌, ◌<◌, subst}
use Rattle.std.specs.Prelude.{◌==◌, if◌then◌else◌, slice_index}
use Rattle.c62_rules.specs.Resource.{place_of}
use Rattle.c62_row.specs.Fields.{count_at}
use Rattle.c62_row.proofs.Words.{at-word, one-more-at}
use Rattle.c62_row.proofs.row.add.Goals as goal

pub one_more-requires-clause-few : goal.one_more-requires-clause-few
one_more-requires-clause-few c = λ j low.
    let w = c.from-at.result in
    let few : w < 3 = omega (arith, c.from-at.ensures, c.place-place.ensures.within) in
    omega (arith, at-word c.args.words.now w j low, c.requires (16 * w + j) (omega (arith, few, low)))

pub returns : goal.returns
returns c = λ place low.
    let w = c.from-at.result in
    one-more-at c.args.words.now (place_of c.args.resource) w c.one_more.result place
    (omega (arith, c.from-at.ensures, c.place-place.ensures.within))
    (omega (arith, c.from-at.ensures, c.place-place.ensures.place))
    (λ j few. subst (λ (p : ℕ). count_at c.one_more.result j ≡ count_at (slice_index c.args.words.now w) j +
    (if p % 16 == j then 1 else 0))
    c.place-place.ensures.place (c.one_more.ensures j few))
