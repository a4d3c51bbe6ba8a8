-- The instruction of a number.
use Rattle.c62_sheet.proofs.Common.{arith, ◌≡◌, ℕ, ◌<◌, List, length, Some, inl, inr, slice_get, slice_get_cases, Insn}

pub insn_at : (block : List Insn) (i : ℕ) → i < length block → (insn : Insn) × (slice_get block i ≡ Some insn)
insn_at block i lt = elim ((slice_get_cases block i).1) [ inl w ↦ (w.0, w.2) | inr w ↦ absurd (omega (arith, w.0)) ]
