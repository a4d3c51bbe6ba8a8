use Rattle.c62_token.proofs.Common.{refl, arith}
use Rattle.std.proofs.Math.Nat.{mul-le-mul_left}
use Rattle.std.proofs.lemmas.Nat.{pow-add}
use Rattle.std.proofs.lemmas.Int.Digits.{digits_value_more}
use Rattle.c62_token.proofs.NumberLemmas.{within}
use Rattle.c62_token.proofs.number.digits_value.Goals as goal

pub overflow_mul-value : goal.overflow_mul-value
overflow_mul-value c =
    let most = mul-le-mul_left c.loop-d.value c.requires.high in
    let small = within c.loop-d.value c.loop-d.d-index c.loop-d.invariant.bound (omega (arith, c.requires.few)) in
    rw c.from-in-loop-d.ensures (omega (arith, most, small))

pub overflow_add-value : goal.overflow_add-value
overflow_add-value c =
    let given = rw c.unwrap-digit.ensures at c.to_digit.ensures.value in
    let most = mul-le-mul_left c.loop-d.value c.requires.high in
    let small = within c.loop-d.value c.loop-d.d-index c.loop-d.invariant.bound (omega (arith, c.requires.few)) in
    rw (c.from-in-loop-d.ensures, c.from-in-loop-d-2.ensures) (omega (arith, given.0, given.1, most, small))

pub loop-d-preserved : goal.loop-d-preserved
loop-d-preserved c =
    let given = rw c.unwrap-digit.ensures at c.to_digit.ensures.value in
    let most = mul-le-mul_left c.loop-d.value c.requires.high in
    let next = digits_value_more c.args.radix c.args.digits.now c.loop-d.d-index c.loop-d-test.true in
    record {
      so_far = rw (
        c.from-in-loop-d.ensures,
        c.from-in-loop-d-2.ensures,
        next,
        ← c.loop-d.invariant.so_far,
        given.1,
        c.from.ensures,
      ) refl;
      bound = rw (c.from-in-loop-d.ensures, c.from-in-loop-d-2.ensures, pow-add 16 c.loop-d.d-index 1)
          (omega (arith, given.0, given.1, most, c.loop-d.invariant.bound));
    }

pub returns-clause-bound : goal.returns-clause-bound
returns-clause-bound c = within c.loop-d.value c.loop-d.d-index c.loop-d.invariant.bound (omega (arith, c.requires.few))
