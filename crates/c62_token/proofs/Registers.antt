-- The registers that numbers name.
use Rattle.c62_token.proofs.Common.{◌≡◌, Bool, true, false, Some, refl, ap, ltb, lt-ltb, Reg}
use Rattle.c62_op.proofs.Registers.{same_reg-is, same_reg-refl}
use Rattle.c62_token.specs.Number.{numbered, numbered_if}

numbered_if-known : (reg : Reg) (b : Bool) (e : ltb reg.number 16 ≡ b) → b ≡ true
    → numbered_if reg.side reg.number b e ≡ Some reg
numbered_if-known reg true e known = ap (λ (r : Reg). Some r) (same_reg-is _ reg (same_reg-refl reg))
numbered_if-known reg false e known = absurd cc

-- a register is the one of its file and number
pub numbered-known : (reg : Reg) → numbered reg.side reg.number ≡ Some reg
unfolding numbered
numbered-known reg = numbered_if-known reg (ltb reg.number 16) refl (lt-ltb reg.number 16 reg.in_range)
