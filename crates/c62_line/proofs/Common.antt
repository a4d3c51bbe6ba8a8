-- What several proofs of this crate use of the standard library and of the definitions.
pub use Rattle.c62_op.specs.Takes.{has_kind, has_kind_in}
pub use Rattle.c62_insn.specs.Insn.{op_of}
pub use Rattle.c62_op.specs.Shape.{crosses_to, is_branch}
pub use Rattle.c62_op.specs.Table.{mnemonic_of}
pub use Rattle.c62_op.specs.Name.{register_name, file_letter}
pub use Rattle.c62_insn.specs.Spelling.{operands_spelling}
pub use Rattle.c62_insn.specs.declared.insn.Insn.{Insn}
pub use Rattle.c62_op.specs.declared.operands.AddressForm.{AddressForm}
pub use Rattle.c62_op.specs.declared.operands.Op.{Op}
pub use Rattle.c62_op.specs.declared.operands.Op.TheVariants.{Add}
pub use Rattle.c62_op.specs.declared.operands.Operands.{Operands}
pub use Rattle.c62_op.specs.declared.operands.Operands.TheVariants.{Block, Access, Constant, ConstantSecond, Three, Two}
pub use Rattle.c62_op.specs.declared.register.Letter.{Letter}
pub use Rattle.c62_op.specs.declared.register.Letter.TheVariants.{L}
pub use Rattle.c62_op.specs.declared.register.Reg.{Reg}
pub use Rattle.c62_op.specs.declared.register.Side.{Side}
pub use Rattle.c62_op.specs.declared.register.Side.TheVariants.{A, B}
pub use Rattle.c62_line.specs.Line.{Says, Does, Jumps, Nothing, Pause, is_star, has_colon, is_bars, target_of, and_read}
pub use Rattle.c62_line.specs.Line.{or_fault}
pub use Rattle.c62_line.specs.Line.{parts_read, unit_behind, without_colon, cycles_of, is_storing, jumps_or_does}
pub use Rattle.c62_line.specs.Line.{with_head}
pub use Rattle.c62_line.specs.Mnemonic.{exchanged, constant_to_front}
pub use Rattle.c62_line.specs.Unit.{is_dot}
pub use Rattle.c62_line.specs.declared.fault.Cause.{Cause}
pub use Rattle.c62_line.specs.declared.fault.Cause.TheVariants.{BadOperand, BadUnit}
pub use Rattle.c62_line.specs.declared.mnemonic.Mnemonic.{Mnemonic}
pub use Rattle.c62_line.specs.declared.mnemonic.Mnemonic.TheVariants.{Nop, Operation}
pub use Rattle.c62_line.specs.declared.operand.Address.{Address}
pub use Rattle.c62_line.specs.declared.unit.Mark.{Mark}
pub use Rattle.c62_line.specs.declared.unit.Mark.TheVariants.{Path, Cross, Plain}
pub use Rattle.c62_line.specs.declared.unit.WrittenUnit.{WrittenUnit}
pub use Rattle.c62_token.specs.Kind.{Word, kinds_of, kinds_in}
pub use Rattle.c62_token.specs.Number.{spells}
pub use Rattle.c62_token.specs.Token.{tokens, begins, is_word_byte, is_allowed, is_blank, grow, words_left, put_back}
pub use Rattle.c62_token.specs.declared.kind.Kind.{Kind}
pub use Rattle.c62_token.specs.declared.kind.Kind.TheVariants.{Number, Comma, Close, Open, Star}
pub use Rattle.std.proofs.Common.{◌≡◌, arith, ◌∙◌, ap, length, sym, ℕ, List, [], refl, true, ◌∷◌, false, None, ◌≤◌}
pub use Rattle.std.proofs.Common.{Bool, Option, ◌+◌, ◌++◌, Some}
pub use Rattle.std.proofs.Common.{◌<◌, cond, eqb, ◌&&◌, not, get_or, ◌||◌, leb, length-append, append_assoc, Ok, Err}
pub use Rattle.std.proofs.Common.{subst, Result, ◌%◌}
pub use Rattle.std.proofs.lemmas.Bool.{and_parts, eqb-true, leb-true, le-leb, cond_both, le-ltb, and_right}
pub use Rattle.std.proofs.lemmas.Bool.Decides.{nat_tests}
pub use Rattle.std.proofs.lemmas.Fmt.{decimal_digit}
pub use Rattle.std.proofs.lemmas.List.{length-map, nil_from_length}
pub use Rattle.std.proofs.lemmas.List.Folds.{list_all-append}
pub use Rattle.std.specs.Char.{is_ascii_digit, to_ascii_lowercase}
pub use Rattle.std.specs.Fmt.{decimal}
pub use Rattle.std.specs.List.{list_all, list_any, filter}
pub use Rattle.std.specs.Prelude.{codes, pos, ℤ, option_map, negsuc, if◌then◌else◌}
pub use Rattle.std.specs.Str.{bytes_eq}
