use Rattle.std.proofs.Common.{refl, arith}
use Rattle.std.proofs.lemmas.Nat.{pow-add}
use Rattle.std.proofs.lemmas.Int.Digits.{digits_value_more}
use Rattle.c62_adopt_spell.proofs.Bits.{within}
use Rattle.c62_adopt_spell.proofs.number.bits_value.Goals as goal

pub overflow_mul-value : goal.overflow_mul-value
overflow_mul-value c =
    let small = within c.loop-d.value c.loop-d.d-index c.loop-d.invariant.bound (omega (arith, c.requires.few)) in
    omega (arith, small)

pub overflow_add-value : goal.overflow_add-value
overflow_add-value c =
    let given = rw c.unwrap-digit.ensures at c.to_digit.ensures.value in
    let small = within c.loop-d.value c.loop-d.d-index c.loop-d.invariant.bound (omega (arith, c.requires.few)) in
    rw c.from-in-loop-d.ensures (omega (arith, given.0, given.1, small))

pub loop-d-preserved : goal.loop-d-preserved
loop-d-preserved c =
    let given = rw c.unwrap-digit.ensures at c.to_digit.ensures.value in
    let next = digits_value_more 2 c.args.digits.now c.loop-d.d-index c.loop-d-test.true in
    record {
      so_far = rw (c.from-in-loop-d.ensures, next, ← c.loop-d.invariant.so_far, given.1, c.from.ensures) refl;
      bound = rw (c.from-in-loop-d.ensures, pow-add 2 c.loop-d.d-index 1)
          (omega (arith, given.0, given.1, c.loop-d.invariant.bound));
    }

pub returns-clause-bound : goal.returns-clause-bound
returns-clause-bound c = within c.loop-d.value c.loop-d.d-index c.loop-d.invariant.bound (omega (arith, c.requires.few))
