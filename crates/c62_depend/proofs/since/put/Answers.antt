use Rattle.c62_depend.proofs.Common.{◌≡◌, ℕ, ◌∙◌, arith, trailing_zeros, refl}
use Rattle.std.proofs.Common.{w32}
use Rattle.c62_depend.proofs.Words.{first_of_set, first_below}
use Rattle.c62_depend.proofs.SetLoops.{changed_more}
use Rattle.c62_depend.proofs.SinceLemmas.{put_at}
use Rattle.c62_depend.proofs.since.put.Goals as goal

pub overflow_add-index : goal.overflow_add-index
overflow_add-index c =
    let low = first_below c.args.set c.loop-rest.at c.loop-rest.rest c.loop-rest.invariant.left
    (omega (arith, c.loop-rest-test.true)) in omega (arith, low)

pub offset_bounds-numbers-index : goal.offset_bounds-numbers-index
offset_bounds-numbers-index c =
    let low = first_below c.args.set c.loop-rest.at c.loop-rest.rest c.loop-rest.invariant.left
    (omega (arith, c.loop-rest-test.true)) in omega (arith, low)

pub bounds-numbers-index : goal.bounds-numbers-index
bounds-numbers-index c = first_below c.args.set c.loop-rest.at c.loop-rest.rest c.loop-rest.invariant.left
    (omega (arith, c.loop-rest-test.true))

pub overflow_add-at : goal.overflow_add-at
overflow_add-at c =
    let low = first_below c.args.set c.loop-rest.at c.loop-rest.rest c.loop-rest.invariant.left
    (omega (arith, c.loop-rest-test.true)) in omega (arith, low)

pub loop-rest-preserved : goal.loop-rest-preserved
loop-rest-preserved c =
    let at = c.loop-rest.at in
    let rest = c.loop-rest.rest in
    let left = c.loop-rest.invariant.left in
    let some = c.loop-rest-test.true in
    let low = first_below c.args.set at rest left (omega (arith, some)) in
    changed_more (λ (old new : ℕ). new ≡ c.args.number) c.args.numbers.now c.loop-rest.numbers _ 0 c.args.number
    c.args.set.bits at rest
    (trailing_zeros w32 rest) c.loop-rest.invariant (first_of_set c.args.set at rest left (omega (arith, some)))
    (omega (arith, low)) refl refl

pub returns : goal.returns
returns c = λ reg.
    let none : 0 ≡ c.loop-rest.rest = omega (arith, c.loop-rest-test.false) in
    put_at c.args.numbers.now c.loop-rest.numbers c.args.set c.loop-rest.at c.loop-rest.rest c.args.number none
    c.loop-rest.invariant reg
