use Rattle.c62_depend.proofs.Common.{◌≡◌, ◌+◌, ◌∙◌, arith, trailing_zeros, refl, ap, Bool, ◌||◌, ◌&&◌, ◌==◌, not}
use Rattle.std.proofs.lemmas.List.{get_or_default}
use Rattle.c62_depend.specs.declared.number_set.NumberSet.{NumberSet}
use Rattle.c62_depend.specs.NumberSet.{number_in}
use Rattle.std.proofs.Common.{w32}
use Rattle.c62_depend.specs.Open.{no_numbers}
use Rattle.c62_depend.proofs.Words.{first_of_set, first_below}
use Rattle.c62_depend.proofs.SetLoops.{changed_more}
use Rattle.c62_depend.proofs.OpenSets.{IsNoted, noted_at}
use Rattle.c62_depend.proofs.register_users.note.Goals as goal

pub overflow_add-index : goal.overflow_add-index
overflow_add-index c =
    let low = first_below c.args.registers c.loop-rest.at c.loop-rest.rest c.loop-rest.invariant.left
    (omega (arith, c.loop-rest-test.true)) in omega (arith, low)

pub offset_bounds-sets-index : goal.offset_bounds-sets-index
offset_bounds-sets-index c =
    let low = first_below c.args.registers c.loop-rest.at c.loop-rest.rest c.loop-rest.invariant.left
    (omega (arith, c.loop-rest-test.true)) in omega (arith, low)

pub bounds-sets-index : goal.bounds-sets-index
bounds-sets-index c = first_below c.args.registers c.loop-rest.at c.loop-rest.rest c.loop-rest.invariant.left
    (omega (arith, c.loop-rest-test.true))

pub offset_bounds-sets-index-in-loop-rest : goal.offset_bounds-sets-index-in-loop-rest
offset_bounds-sets-index-in-loop-rest c =
    let low = first_below c.args.registers c.loop-rest.at c.loop-rest.rest c.loop-rest.invariant.left
    (omega (arith, c.loop-rest-test.true)) in omega (arith, low)

pub bounds-sets-index-in-loop-rest : goal.bounds-sets-index-in-loop-rest
bounds-sets-index-in-loop-rest c = first_below c.args.registers c.loop-rest.at c.loop-rest.rest
    c.loop-rest.invariant.left (omega (arith, c.loop-rest-test.true))

pub overflow_add-at : goal.overflow_add-at
overflow_add-at c =
    let low = first_below c.args.registers c.loop-rest.at c.loop-rest.rest c.loop-rest.invariant.left
    (omega (arith, c.loop-rest-test.true)) in omega (arith, low)

pub loop-rest-preserved : goal.loop-rest-preserved
loop-rest-preserved c =
    let at = c.loop-rest.at in
    let rest = c.loop-rest.rest in
    let left = c.loop-rest.invariant.left in
    let some = c.loop-rest-test.true in
    let low = first_below c.args.registers at rest left (omega (arith, some)) in
    let same = get_or_default c.loop-rest.sets (at + trailing_zeros w32 rest) _ no_numbers
    (omega (arith, low, c.loop-rest.invariant.long)) in
    changed_more (IsNoted c.args.k c.args.clears) c.args.sets.now c.loop-rest.sets _ no_numbers c.with.result
    c.args.registers.bits at rest
    (trailing_zeros w32 rest) c.loop-rest.invariant (first_of_set c.args.registers at rest left (omega (arith, some)))
    (omega (arith, low)) refl
    (λ n. c.with.ensures n ∙ ap (λ (b : Bool). b || (n == c.args.k))
    (c.kept.ensures n ∙ ap (λ (s : NumberSet). not c.args.clears && number_in s n) same))

pub returns : goal.returns
returns c = λ reg other.
    let none : 0 ≡ c.loop-rest.rest = omega (arith, c.loop-rest-test.false) in
    noted_at c.args.sets.now c.loop-rest.sets c.args.registers c.loop-rest.at c.loop-rest.rest c.args.k c.args.clears
    none c.loop-rest.invariant reg other
