-- What several proofs of this crate use of the standard library and of the definitions.
pub use Rattle.std.proofs.Common.{◌≡◌, arith, ◌∙◌, ap, length, sym, ℕ, List, [], refl, true, ◌∷◌, false, None, ◌≤◌}
pub use Rattle.std.proofs.Common.{Bool, Option, ◌+◌, ◌++◌, Some}
pub use Rattle.std.proofs.Common.{◌<◌, subst, cond, eqb, ◌&&◌, not, ◌||◌, append_assoc, ◌/◌, inl, inr}
pub use Rattle.std.proofs.lemmas.Bool.{cases_Bool}
pub use Rattle.std.proofs.lemmas.Bool.Decides.{nat_tests}
pub use Rattle.std.specs.List.{AllByRecursion}
pub use Rattle.std.specs.Prelude.{codes, pos, ℤ, negsuc}
pub use Rattle.c62_token.specs.Kind.{Word}
pub use Rattle.c62_token.specs.Number.{spells}
pub use Rattle.c62_token.specs.Token.{tokens, begins, is_word_byte, is_blank, is_double, joins, is_solid, grow}
