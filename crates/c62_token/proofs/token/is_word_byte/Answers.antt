use Rattle.c62_token.proofs.Common.{◌≡◌, ℕ, ◌<◌, Bool, true, false, not, map, cond, eqb, get_or, refl, ap, ◌∙◌, arith}
use Rattle.c62_token.proofs.Common.{nat_tests, is_word_byte}
use Rattle.std.proofs.lemmas.List.FromFn.{get_or-map-range_with_len}
use Rattle.std.specs.List.{range_with_len}
use Rattle.c62_token.specs.declared.token.TheConstants.{WORD_BYTES}
use Rattle.c62_token.proofs.token.is_word_byte.Goals as goal

abbrev mark : ℕ → ℕ
mark b = cond (is_word_byte b) b 44

-- the table has each byte of a word at its index
table_is : WORD_BYTES ≡ map mark (range_with_len 0 256)
table_is = refl

no_comma : (b : ℕ) → is_word_byte b ≡ true → eqb b 44 ≡ false
no_comma b word = grind (arith, nat_tests)

marked : (b : ℕ) (word : Bool) → is_word_byte b ≡ word → not (eqb (cond word b 44) 44) ≡ word
marked b true is = ap not (no_comma b is)
marked b false is = refl

read : (b : ℕ) → b < 256 → not (eqb (get_or WORD_BYTES b 0) 44) ≡ is_word_byte b
read b h =
    ap (λ (n : ℕ). not (eqb n 44)) (ap (λ t. get_or t b 0) table_is
    ∙ get_or-map-range_with_len mark 0 256 b b 0 h (omega arith))
    ∙ marked b (is_word_byte b) refl

pub returns : goal.returns
returns c = rw c.from.ensures (read c.args.b (omega arith))
