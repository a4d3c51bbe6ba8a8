use Rattle.c62_depend.proofs.Common.{◌≡◌, ◌+◌, ◌∙◌, arith, trailing_zeros}
use Rattle.std.proofs.lemmas.List.{get_or_default}
use Rattle.c62_depend.specs.Open.{no_numbers}
use Rattle.std.proofs.Common.{w32}
use Rattle.c62_depend.proofs.Words.{first_of_set, first_below}
use Rattle.c62_depend.proofs.SetLoops.{gathered_more, gathered_of, gathered_from}
use Rattle.c62_depend.proofs.register_users.joined.Goals as goal

pub overflow_add-index : goal.overflow_add-index
overflow_add-index c =
    let low = first_below c.args.registers c.loop-rest.at c.loop-rest.rest c.loop-rest.invariant.left
    (omega (arith, c.loop-rest-test.true)) in omega (arith, low)

pub offset_bounds-sets-index : goal.offset_bounds-sets-index
offset_bounds-sets-index c =
    let low = first_below c.args.registers c.loop-rest.at c.loop-rest.rest c.loop-rest.invariant.left
    (omega (arith, c.loop-rest-test.true)) in omega (arith, low)

pub bounds-sets-index : goal.bounds-sets-index
bounds-sets-index c = first_below c.args.registers c.loop-rest.at c.loop-rest.rest c.loop-rest.invariant.left
    (omega (arith, c.loop-rest-test.true))

pub overflow_add-at : goal.overflow_add-at
overflow_add-at c =
    let low = first_below c.args.registers c.loop-rest.at c.loop-rest.rest c.loop-rest.invariant.left
    (omega (arith, c.loop-rest-test.true)) in omega (arith, low)

pub loop-rest-preserved : goal.loop-rest-preserved
loop-rest-preserved c =
    let at = c.loop-rest.at in
    let rest = c.loop-rest.rest in
    let left = c.loop-rest.invariant.left in
    let some = c.loop-rest-test.true in
    let low = first_below c.args.registers at rest left (omega (arith, some)) in
    gathered_more c.loop-rest.all c.joined-all.result _ c.args.sets.now c.args.registers.bits at rest
    (trailing_zeros w32 rest) c.loop-rest.invariant
    (first_of_set c.args.registers at rest left (omega (arith, some)))
    (get_or_default c.args.sets.now (at + trailing_zeros w32 rest) _ no_numbers (omega (arith, low)))
    c.joined-all.ensures

pub returns : goal.returns
returns c = λ k.
    let none : 0 ≡ c.loop-rest.rest = omega (arith, c.loop-rest-test.false) in (
      gathered_from c.loop-rest.all c.args.sets.now c.args.registers c.loop-rest.at c.loop-rest.rest none
          c.loop-rest.invariant k,
      gathered_of c.loop-rest.all c.args.sets.now c.args.registers c.loop-rest.at c.loop-rest.rest none
          c.loop-rest.invariant k,
    )
