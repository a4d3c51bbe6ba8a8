-- Counts of four bits in one number.
use Rattle.std.proofs.Common.{arith, ◌≡◌, ◌≢◌, ℕ, ◌+◌, ◌-◌, ◌*◌, ◌/◌, ◌^◌, ◌<◌}
use Rattle.std.proofs.Common.{refl, sym, ap, ◌∙◌, inl, inr}
use Rattle.std.proofs.Math.Nat.{div-div-eq-div-mul, add-mul-div_left, add-div_right}
use Rattle.std.proofs.lemmas.Nat.{pow_pos, pow-add}
use Rattle.std.proofs.lemmas.Bool.{cases_lt}
use Rattle.c62_row.specs.Fields.{count_at}

-- a place further up is so many counts further
far : (k d : ℕ) → 2 ^ (4 * (k + 1 + d)) ≡ 2 ^ (4 * k) * (16 * 2 ^ (4 * d))
far k d =
    let split : 4 * (k + 1 + d) ≡ 4 * k + (4 + 4 * d) = omega arith in
    rw split (pow-add 2 (4 * k) (4 + 4 * d) ∙ ap (λ (m : ℕ). 2 ^ (4 * k) * m) (pow-add 2 4 (4 * d)))

-- one more at place k
pub same_more : (n k : ℕ) → count_at n k < 15 → count_at (n + 2 ^ (4 * k)) k ≡ count_at n k + 1
same_more n k low =
    let more : (n + 2 ^ (4 * k)) / 2 ^ (4 * k) ≡ n / 2 ^ (4 * k) + 1 = add-div_right n (pow_pos (4 * k)) in
    omega (arith, more, low)

below_stays : (n j d : ℕ) → count_at (n + 2 ^ (4 * (j + 1 + d))) j ≡ count_at n j
below_stays n j d =
    let m = 2 ^ (4 * d) in
    let more : (n + 2 ^ (4 * j) * (16 * m)) / 2 ^ (4 * j) ≡ n / 2 ^ (4 * j) + 16 * m = add-mul-div_left n (16 * m)
    (pow_pos (4 * j)) in
    let whole : (n + 2 ^ (4 * (j + 1 + d))) / 2 ^ (4 * j) ≡ n / 2 ^ (4 * j) + 16 * m = rw (far j d) more in
    omega (arith, whole)

-- what stands above place k
above : (n k d : ℕ) → n / 2 ^ (4 * (k + 1 + d)) ≡ n / 2 ^ (4 * k) / 16 / 2 ^ (4 * d)
above n k d = rw (far k d) (sym (div-div-eq-div-mul n (2 ^ (4 * k)) (16 * 2 ^ (4 * d)))
    ∙ sym (div-div-eq-div-mul (n / 2 ^ (4 * k)) 16 (2 ^ (4 * d))))

above_stays : (n k d : ℕ) → count_at n k < 15 → count_at (n + 2 ^ (4 * k)) (k + 1 + d) ≡ count_at n (k + 1 + d)
above_stays n k d low =
    let more : (n + 2 ^ (4 * k)) / 2 ^ (4 * k) ≡ n / 2 ^ (4 * k) + 1 = add-div_right n (pow_pos (4 * k)) in
    let same : (n + 2 ^ (4 * k)) / 2 ^ (4 * k) / 16 ≡ n / 2 ^ (4 * k) / 16 = omega (arith, more, low) in
    rw (above (n + 2 ^ (4 * k)) k d, above n k d, same) refl

pub other_stays : (n k j : ℕ) → count_at n k < 15 → j ≢ k → count_at (n + 2 ^ (4 * k)) j ≡ count_at n j
other_stays n k j low apart = elim (cases_lt j k) [
  | inl lt ↦ (let e : k ≡ j + 1 + (k - j - 1) = omega (arith, lt) in rw e (below_stays n j (k - j - 1)))
  | inr ge ↦ (let e : j ≡ k + 1 + (j - k - 1) = omega (arith, ge, apart) in rw e (above_stays n k (j - k - 1) low))
]
