-- The values that a parser of numbers in a range takes.
use Rattle.std.proofs.Common.{◌≡◌, ◌∙◌, ℕ, zero, suc, ◌^◌, ◌<◌, ◌≤◌, Bool, true, false, List, [], ◌∷◌, length, drop}
use Rattle.std.proofs.Common.{Option, Some, None, refl, ap, arith}
use Rattle.std.specs.Prelude.{◌&&◌, if◌then◌else◌, cond, ℤ, pos, neg_ℤ, int_le, nat_lt, unwrap_or, IfSome}
use Rattle.std.specs.Prelude.{option_and_then}
use Rattle.std.specs.Str.Parse.{digits_value, starts_with_minus, without_leading_plus}
use Rattle.std.proofs.lemmas.Bool.{eqb-true, lt-ltb, leb-true}
use Rattle.clap.proofs.WalkLemmas.{both}
use Rattle.clap.specs.Kinds.{value_kinds, values_kinds}
use Rattle.clap.specs.Values.{refused_kind}
use Rattle.clap.specs.ValueTests.{accepts, fits_i64, is_numeral, is_signed_in}
use Rattle.clap.specs.Walk.{Text}
use Rattle.clap.specs.declared.builder.value_parser.ValueParser.{ValueParser}
use Rattle.c62_command.specs.CommandLine.{IsNumberOf, number_written}
use Rattle.c62_command.proofs.PassedRows.{Each, first_none, then_none}

pub values_pass : (ignore_case : Bool) (p : ValueParser) (values : List Text) → values_kinds ignore_case p values ≡ []
    → Each (λ v. accepts ignore_case p v ≡ true) values
values_pass ignore_case p [] none = tt
values_pass ignore_case p (v ∷ values) none = (
  passes (accepts ignore_case p v) (first_none (value_kinds ignore_case p v) (values_kinds ignore_case p values) none),
  values_pass ignore_case p values (then_none (value_kinds ignore_case p v) (values_kinds ignore_case p values) none),
)
  where
    passes : (b : Bool) → (if b then [] else refused_kind p ∷ []) ≡ [] → b ≡ true
    passes true e = refl
    passes false e = absurd cc

-- of numbers with a minus only 0 may be in a range of naturals
only_zero : (low m : ℕ) → int_le (pos low) (neg_ℤ (pos m)) ≡ true → (low ≡ 0) × (m ≡ 0)
only_zero low zero e = let less : low ≤ 0 = leb-true low 0 e in (omega arith, refl)
only_zero low (suc m) e = absurd cc

-- a text with a minus writes no natural
no_natural : (bits : ℕ) (text : List ℕ) → starts_with_minus text ≡ true → number_written bits text ≡ None
no_natural bits [] minus = absurd cc
no_natural bits (b ∷ text) minus = let is : b ≡ 45 = eqb-true b 45 minus in rw
    (is, lt-ltb 0 (suc (length text)) (omega arith)) refl

abbrev InRange : ℕ → ℕ → Bool → ℤ → Bool
InRange low high numeral z = numeral && (fits_i64 z && (int_le (pos low) z && int_le z (pos high)))

range_of : (low high : ℕ) (numeral : Bool) (z : ℤ) → InRange low high numeral z ≡ true → (numeral ≡ true)
    × (int_le (pos low) z ≡ true) × (int_le z (pos high) ≡ true)
range_of low high numeral z e =
    let outer = both numeral (fits_i64 z && (int_le (pos low) z && int_le z (pos high))) e in
    let inner = both (fits_i64 z) (int_le (pos low) z && int_le z (pos high)) outer.1 in
    let range = both (int_le (pos low) z) (int_le z (pos high)) inner.1 in
    (outer.0, range.0, range.1)

-- a text that a parser of numbers in a range takes is the number that is read
in_range : (bits low high default : ℕ) (text : List ℕ) → (low ≡ 0 → default ≡ 0) → high < 2 ^ bits
    → is_signed_in (pos low) (pos high) text ≡ true
    → IsNumberOf low high default (Some text) (unwrap_or (number_written bits text) default)
in_range bits low high default text zeros fits passes = go (starts_with_minus text) refl passes
  where
    go : (b : Bool) → starts_with_minus text ≡ b
        → InRange low high (is_numeral (cond b (drop 1 text) (without_leading_plus text)))
        (cond b (neg_ℤ (pos (digits_value 10 (cond b (drop 1 text) (without_leading_plus text)))))
        (pos (digits_value 10 (cond b (drop 1 text) (without_leading_plus text))))) ≡ true
        → (cond b (neg_ℤ (pos (digits_value 10 (cond b (drop 1 text) (without_leading_plus text)))))
        (pos (digits_value 10 (cond b (drop 1 text) (without_leading_plus text))))
        ≡ pos (unwrap_or (number_written bits text) default)) × (low ≤ unwrap_or (number_written bits text) default)
        × (unwrap_or (number_written bits text) default ≤ high)
    go true minus e =
        let m = digits_value 10 (drop 1 text) in
        let parts = range_of low high (is_numeral (drop 1 text)) (neg_ℤ (pos m)) e in
        let none = only_zero low m parts.1 in
        let is : unwrap_or (number_written bits text) default ≡ 0 = ap (λ (o : Option ℕ). unwrap_or o default)
        (no_natural bits text minus) ∙ zeros none.0 in
        let least : low ≤ 0 = omega (arith, none.0) in
        rw is (ap (λ (n : ℕ). neg_ℤ (pos n)) none.1, least, omega arith)
    go false plus e =
        let n = digits_value 10 (without_leading_plus text) in
        let parts = range_of low high (is_numeral (without_leading_plus text)) (pos n) e in
        let least : low ≤ n = leb-true low n parts.1 in
        let most : n ≤ high = leb-true n high parts.2 in
        let small : nat_lt n (2 ^ bits) ≡ true = lt-ltb n (2 ^ bits) (omega (arith, fits)) in
        let is : unwrap_or (number_written bits text) default ≡ n = rw (parts.0, small) refl in
        rw is (refl, least, most)

pub given : (bits low high default : ℕ) (o : Option Text) → (low ≡ 0 → default ≡ 0) → high < 2 ^ bits
    → IfSome o (λ text. is_signed_in (pos low) (pos high) text ≡ true)
    → IsNumberOf low high default o (unwrap_or (option_and_then (number_written bits) o) default)
given bits low high default None zeros fits passes = refl
given bits low high default (Some text) zeros fits passes = in_range bits low high default text zeros fits passes
