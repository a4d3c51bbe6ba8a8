-- What several proofs of this crate use of the standard library and of the definitions.
pub use Rattle.c62_pair.specs.RegSet.{reg_in, shares}
pub use Rattle.c62_pair.specs.Writes.{is_write_with}
pub use Rattle.c62_pair.specs.declared.reg_set.RegSet.{RegSet}
pub use Rattle.c62_op.proofs.Registers.{same_reg-is, same_reg-refl}
pub use Rattle.c62_insn.specs.Insn.{op_of, operands_of, reads_register, cond_of, is_condition_on}
pub use Rattle.c62_op.specs.Takes.{same_reg, same_side}
pub use Rattle.c62_insn.specs.declared.insn.Insn.{Insn}
pub use Rattle.c62_op.specs.declared.operands.Operands.{Operands}
pub use Rattle.c62_op.specs.declared.operands.Operands.TheVariants.{Access}
pub use Rattle.c62_op.specs.declared.register.Reg.{Reg}
pub use Rattle.c62_op.specs.declared.register.Side.{Side}
pub use Rattle.std.proofs.Common.{◌≡◌, ◌≢◌, ℕ, ◌+◌, ◌-◌, ◌*◌, ◌^◌, ◌%◌, ◌<◌, ◌≤◌, ℤ, min, Bool, true, false, refl, sym}
pub use Rattle.std.proofs.Common.{ap, ◌∙◌, arith, inl, inr, w32, bit_or}
pub use Rattle.std.proofs.Common.{bit_and, take}
pub use Rattle.std.proofs.lemmas.Bool.{both_ways, false_from_ne_true, cases_lt}
pub use Rattle.std.proofs.lemmas.Bool.Decides.{nat_tests}
pub use Rattle.std.specs.Int.{bit_at, trailing_zeros}
pub use Rattle.std.specs.List.{list_any}
pub use Rattle.std.specs.Prelude.{◌==◌, ◌&&◌, ◌||◌}
