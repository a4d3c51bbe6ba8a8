-- Numbers of few binary digits stay below a power of two.
use Rattle.std.proofs.Common.{ℕ, ◌^◌, ◌<◌, ◌≤◌, arith}
use Rattle.std.proofs.Math.Nat.{pow-le-pow_right}

pub within : (value i : ℕ) → value < 2 ^ i → i ≤ 32 → value < 2 ^ 40
within value i bound few = let room : 2 ^ i ≤ 2 ^ 32 = pow-le-pow_right {n = 2} (omega arith) few in omega arith
