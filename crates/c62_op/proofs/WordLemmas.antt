-- Lemmas on words.
use Rattle.std.proofs.Common.{rules, refl, ◌≡◌, ℕ, ◌+◌, ◌-◌, ◌*◌, ◌/◌, ◌%◌, ◌^◌, ◌<◌, ◌≤◌, arith, ◌∙◌, ap, sym, ℤ, pos}
use Rattle.std.proofs.Common.{negsuc, FitsSigned, w32}
use Rattle.std.specs.Prelude.{nat_lt, if◌then◌else◌}
use Rattle.std.specs.Int.{int_shr, cast_signed}
use Rattle.std.proofs.lemmas.Nat.{pow-add, pow_pos, shr-shr}
use Rattle.std.proofs.lemmas.Int.{ints}
use Rattle.std.proofs.Math.Pow.{pow-lt}
use Rattle.std.proofs.lemmas.Bool.Decides.{nat_tests}
use Rattle.std.proofs.Math.Nat.{mul-mod_right, div-eq_of_lt}
use Rattle.c62_op.specs.Word.{word, sg, shifted_right}

gone_by : (a w j : ℕ) → (a * 2 ^ (w + j)) % 2 ^ w ≡ 0
gone_by a w j =
    let e : a * 2 ^ (w + j) ≡ 2 ^ w * (a * 2 ^ j) = rw (pow-add 2 w j) (omega arith) in
    rw e (mul-mod_right (2 ^ w) (a * 2 ^ j))

-- a shift left by 32 or more leaves nothing
pub shl_gone : (a k : ℕ) → 32 ≤ k → (a * 2 ^ k) % 2 ^ 32 ≡ 0
shl_gone a k h =
    let e : k ≡ 32 + (k - 32) = omega arith in
    ap (λ (i : ℕ). (a * 2 ^ i) % 2 ^ 32) e ∙ gone_by a 32 (k - 32)

gone_right : (a w j : ℕ) → a < 2 ^ w → a / 2 ^ (w + j) ≡ 0
gone_right a w j h = sym (shr-shr a w j) ∙ ap (λ (q : ℕ). q / 2 ^ j) (div-eq_of_lt h) ∙ div-eq_of_lt (pow_pos j)

-- a shift right by w or more leaves nothing of w bits
pub shr_gone_by : (a w k : ℕ) → a < 2 ^ w → w ≤ k → a / 2 ^ k ≡ 0
shr_gone_by a w k h l =
    let e : k ≡ w + (k - w) = omega arith in
    ap (λ (i : ℕ). a / 2 ^ i) e ∙ gone_right a w (k - w) h

pub shr_gone : (a k : ℕ) → 32 ≤ k → a < 2 ^ 32 → a / 2 ^ k ≡ 0
shr_gone a k l h = shr_gone_by a 32 k h l

-- a shift right by 32 or more leaves the sign in all bits
pub shr_far : (z : ℤ) (k : ℕ) → 32 ≤ k → FitsSigned w32 z → int_shr z k ≡ int_shr z 31
shr_far (pos n) k l f =
    let h : n < 2 ^ 31 = f.sfits in let m : 31 ≤ k = omega arith in
    ap pos (shr_gone_by n 31 k h m ∙ sym (div-eq_of_lt h))
shr_far (negsuc n) k l f =
    let h : n < 2 ^ 31 = f.sfits in let m : 31 ≤ k = omega arith in
    ap negsuc (shr_gone_by n 31 k h m ∙ sym (div-eq_of_lt h))

-- and so zeros or ones
sign_of : (v : ℕ) (z : ℤ) → z ≡ cast_signed w32 v → v < 2 ^ 32
    → word (int_shr z 31) ≡ (if nat_lt v (2 ^ 31) then 0 else 2 ^ 32 - 1)
sign_of v (pos n) e f =
    let small : n < 2 ^ 31 = omega (arith, ints) in
    let none : n / 2 ^ 31 ≡ 0 = div-eq_of_lt small in grind (arith, nat_tests, ints)
sign_of v (negsuc n) e f =
    let small : n < 2 ^ 31 = omega (arith, ints) in
    let none : n / 2 ^ 31 ≡ 0 = div-eq_of_lt small in grind (arith, nat_tests, ints)

pub sign_left : (v k : ℕ) → 32 ≤ k → v < 2 ^ 32 → shifted_right v k ≡ (if nat_lt v (2 ^ 31) then 0 else 2 ^ 32 - 1)
sign_left v k far f =
    let fits : FitsSigned w32 (sg v) = search rules in
    ap word (shr_far (sg v) k far fits) ∙ sign_of v (sg v) refl f

-- one bit within the word
pub small_power : (count : ℕ) → 1 * 2 ^ (count % 32) % 2 ^ 32 ≡ 2 ^ (count % 32)
small_power count =
    let low : 2 ^ (count % 32) < 2 ^ 32 = pow-lt {j = 32} (omega arith) in
    omega arith
