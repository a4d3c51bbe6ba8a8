-- Sets of the registers in which something lands.
use Rattle.std.proofs.Common.{arith, ◌≡◌, ◌≢◌, ℕ, ◌*◌, ◌^◌, ◌%◌, ◌<◌, Bool, true, false, w32, bit_or, refl, sym, ap}
use Rattle.std.proofs.Common.{◌∙◌}
use Rattle.std.specs.Prelude.{◌||◌}
use Rattle.std.specs.Int.{bit_at}
use Rattle.std.proofs.lemmas.Bool.{both_ways}
use Rattle.std.proofs.lemmas.Bool.Decides.{nat_tests}
use Rattle.std.proofs.lemmas.Nat.Bits.{bit_at_set_same, bit_at_set_other}
use Rattle.c62_op.specs.declared.register.Reg.{Reg}
use Rattle.c62_op.specs.Register.{register_index}
use Rattle.c62_op.specs.Takes.{same_reg}
use Rattle.c62_op.proofs.Registers.{same_reg-is, same_parts}
use Rattle.c62_packet.specs.Landed.{has_register}

pub with_one : (n k : ℕ) (reg other : Reg) → k ≡ register_index reg
    → has_register (bit_or n (1 * 2 ^ k % 2 ^ 32)) other ≡ (has_register n other || same_reg reg other)
with_one n k reg other is = by_test (same_reg reg other) refl
  where
    within : k < 32
    within = rw is (grind (arith, reg.in_range))

    by_test : (t : Bool) → same_reg reg other ≡ t
        → has_register (bit_or n (1 * 2 ^ k % 2 ^ 32)) other ≡ (has_register n other || t)
    by_test true e =
        let same : register_index other ≡ k = ap register_index (sym (same_reg-is reg other e)) ∙ sym is in
        let set : bit_at (bit_or n (1 * 2 ^ k % 2 ^ 32)) k ≡ 1 = bit_at_set_same w32 n k within in
        rw (same, set) (grind (arith, nat_tests))
    by_test false e =
        let apart : register_index other ≢ k = λ same.
        (let one = same_parts reg.side other.side reg.number other.number reg.in_range other.in_range (sym (same ∙ is))
        in
        both_ways (same_reg reg other) e one) in
        rw (bit_at_set_other w32 n k within (register_index other) apart) (grind (arith, nat_tests))
