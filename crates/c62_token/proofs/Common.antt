-- What several proofs of this crate use of the standard library and of the definitions.
pub use Rattle.c62_op.specs.Name.{register_name, file_letter}
pub use Rattle.c62_op.specs.declared.register.Reg.{Reg}
pub use Rattle.c62_op.specs.declared.register.Side.{Side}
pub use Rattle.c62_op.specs.declared.register.Side.TheVariants.{A, B}
pub use Rattle.c62_token.specs.Kind.{Word, kinds_of}
pub use Rattle.c62_token.specs.Number.{spells}
pub use Rattle.c62_token.specs.Token.{tokens, begins, is_word_byte, is_allowed, is_blank, is_double, joins, is_solid}
pub use Rattle.c62_token.specs.Token.{grow, is_sign, words_left}
pub use Rattle.c62_token.specs.Token.{put_back}
pub use Rattle.c62_token.specs.declared.kind.Kind.{Kind}
pub use Rattle.c62_token.specs.declared.kind.Kind.TheVariants.{Number, Comma}
pub use Rattle.std.proofs.Common.{◌≡◌, arith, ◌∙◌, ap, length, sym, ℕ, List, [], refl, true, ◌∷◌, false, None, ◌≤◌}
pub use Rattle.std.proofs.Common.{Bool, Option, ◌+◌, ◌++◌, Some}
pub use Rattle.std.proofs.Common.{◌<◌, cond, eqb, ◌&&◌, take, inr, not, suc, drop, inl, get_or, ◌||◌, leb}
pub use Rattle.std.proofs.Common.{length-append, append_assoc, ltb, rules}
pub use Rattle.std.proofs.Common.{◌*◌, ◌-◌, zero, ◌^◌, append-nil}
pub use Rattle.std.proofs.lemmas.Bool.{and_parts, cases_Bool, and_from, eqb-true, leb-true, le-leb, lt-ltb, or_left}
pub use Rattle.std.proofs.lemmas.Bool.Decides.{nat_tests}
pub use Rattle.std.proofs.lemmas.List.{length-map, map-append, take_rest, take-append-drop}
pub use Rattle.std.proofs.lemmas.List.Folds.{list_all-append, list_any-append}
pub use Rattle.std.specs.Char.{is_ascii_digit, to_ascii_lowercase, digit_value}
pub use Rattle.std.specs.Fmt.{decimal}
pub use Rattle.std.specs.List.{list_all, list_any, filter, flat_map}
pub use Rattle.std.specs.Prelude.{map, codes, pos, ℤ, option_map, int_le, negsuc}
pub use Rattle.std.specs.Str.Parse.{digits_value}
