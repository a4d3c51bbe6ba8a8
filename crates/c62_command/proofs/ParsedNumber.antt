-- The number that `parse` reads of a text.
use Rattle.std.proofs.Common.{◌≡◌, ℕ, ◌^◌, List, [], ◌∷◌, length, Result, Ok, Err, Bool, true, false, refl}
use Rattle.std.specs.Prelude.{◌&&◌, nat_lt, unwrap_or}
use Rattle.std.specs.Char.{digit_value}
use Rattle.std.specs.Result.{result_unwrap_or}
use Rattle.std.specs.Str.Parse.{AllDigits, ParsesUnsigned, digits_value, without_leading_plus}
use Rattle.std.proofs.lemmas.Bool.{lt-ltb, ltb-true}
use Rattle.clap.proofs.WalkLemmas.{both}
use Rattle.c62_token.specs.Number.{are_digits}
use Rattle.c62_command.specs.CommandLine.{number_written}

digits_pass : (ds : List ℕ) → AllDigits 10 ds → are_digits 10 ds ≡ true
digits_pass [] h = refl
digits_pass (d ∷ ds) h = rw (lt-ltb (digit_value d) 10 h.0) (digits_pass ds h.1)

digits_from : (ds : List ℕ) → are_digits 10 ds ≡ true → AllDigits 10 ds
digits_from [] e = tt
digits_from (d ∷ ds) e =
    let parts = both _ _ e in
    (ltb-true _ _ parts.0, digits_from ds parts.1)

abbrev is_number : ℕ → List ℕ → Bool
is_number bits ds = nat_lt 0 (length ds) && are_digits 10 ds && nat_lt (digits_value 10 ds) (2 ^ bits)

pub number_read : {E : Type 0} (bits default : ℕ) (text : List ℕ) (r : Result ℕ E) → ParsesUnsigned bits 10 text r
    → result_unwrap_or r default ≡ unwrap_or (number_written bits text) default
number_read bits default text (Ok n) h =
    let ds = without_leading_plus text in
    rw (lt-ltb 0 (length ds) h.0.0.0, digits_pass ds h.0.0.1, lt-ltb (digits_value 10 ds) (2 ^ bits) h.0.1) h.1
number_read bits default text (Err e) h = go (is_number bits (without_leading_plus text)) refl
  where
    go : (b : Bool) → is_number bits (without_leading_plus text) ≡ b
        → default ≡ unwrap_or (number_written bits text) default
    go false t = rw t refl
    go true t =
        let outer = both _ _ t in
        let inner = both _ _ outer.0 in
        absurd (h ((ltb-true _ _ inner.0, digits_from (without_leading_plus text) inner.1), ltb-true _ _ outer.1))
