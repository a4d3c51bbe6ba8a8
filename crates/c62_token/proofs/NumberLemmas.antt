-- Numbers of few digits stay below a power of two.
use Rattle.c62_token.proofs.Common.{nat_tests, ◌≡◌, ℕ, List, length, true, ◌^◌, ◌<◌, ◌≤◌, arith}
use Rattle.std.proofs.Math.Nat.{pow-le-pow_right}
use Rattle.c62_token.specs.Number.{is_label}

pub within : (value i : ℕ) → value < 16 ^ i → i ≤ 10 → value < 2 ^ 40
within value i bound few = let room : 16 ^ i ≤ 16 ^ 10 = pow-le-pow_right {n = 16} (omega arith) few in omega arith

-- a label is short
pub label_few : (word : List ℕ) → is_label word ≡ true → length word ≤ 32
unfolding is_label
label_few word label = grind (arith, nat_tests)
