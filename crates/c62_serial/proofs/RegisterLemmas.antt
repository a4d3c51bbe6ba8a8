-- Each register has an index of its own.
use Rattle.std.proofs.Common.{◌≡◌, ◌≢◌, ℕ, ◌+◌, ◌-◌, ◌<◌, inl, inr, arith}
use Rattle.std.proofs.lemmas.Bool.{cases_lt}
use Rattle.c62_op.specs.declared.register.Side.{Side}
use Rattle.c62_op.specs.declared.register.Side.TheVariants.{A, B}
use Rattle.c62_op.specs.declared.register.Reg.{Reg}
use Rattle.c62_op.proofs.Registers.{same_register}
use Rattle.c62_serial.specs.State.{first_of, index_of}

pub apart : (a b : Reg) → a ≢ b → index_of a ≢ index_of b
apart a b h e = h (same_register a b e)

within_file : (s : Side) (n : ℕ) → n < 16 → first_of s + n < 32
within_file A n h = omega arith
within_file B n h = omega arith

pub index_within : (reg : Reg) → index_of reg < 32
index_within reg = within_file reg.side reg.number reg.in_range

-- the register at an index
pub register_at : (index : ℕ) → index < 32 → (reg : Reg) × (index_of reg ≡ index)
register_at index h = elim (cases_lt index 16) [
  | inl l ↦ (record { side = A; number = index; in_range = l }, omega arith)
  | inr l ↦ (let m : index - 16 < 16 = omega arith in
      (record { side = B; number = index - 16; in_range = m }, omega arith))
]
