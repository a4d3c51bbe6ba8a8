-- Digits and changes, one by one.
use Rattle.std.proofs.Common.{◌≡◌, ℕ, zero, suc, ◌+◌, ◌-◌, ◌/◌, ◌%◌, ◌^◌, ◌<◌, ◌∷◌, sym, ap, arith}
use Rattle.c62_wave.specs.Value.{bits}

-- the first of some digits
pub first_bit : (count number : ℕ) → 0 < count
    → bits count number ≡ (48 + number / 2 ^ (count - 1) % 2) ∷ bits (count - 1) number
unfolding bits
first_bit zero number some = absurd (omega arith)
first_bit (suc more) number some =
    let e : suc more - 1 ≡ more = omega arith in
    sym (ap (λ (n : ℕ). (48 + number / 2 ^ n % 2) ∷ bits n number) e)
