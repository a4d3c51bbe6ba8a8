-- Numbers and registers read back.
use Rattle.c62_token.proofs.Common.{option_map, ◌≡◌, ℕ, zero, suc, ◌^◌, ◌<◌, ◌≤◌, Bool, true, false, eqb, ltb, leb}
use Rattle.c62_token.proofs.Common.{◌&&◌, ◌||◌, List, [], ◌∷◌, ◌++◌}
use Rattle.c62_token.proofs.Common.{get_or, drop, rules, length, Option, Some, None, ap, arith, ℤ, pos, negsuc, int_le}
use Rattle.c62_token.proofs.Common.{codes, refl, digit_value}
use Rattle.c62_token.proofs.Common.{is_ascii_digit, decimal, list_all, digits_value, and_parts, lt-ltb, le-leb}
use Rattle.c62_token.proofs.Common.{leb-true, or_left, nat_tests, Side, A}
use Rattle.c62_token.proofs.Common.{B, Reg, file_letter, register_name, is_word_byte, Number}
use Rattle.std.specs.Prelude.{◌≤ℤ◌}
use Rattle.std.specs.Fmt.{digits, signed_decimal}
use Rattle.std.specs.List.{starts_with}
use Rattle.std.proofs.lemmas.Bool.{agree_below_at}
use Rattle.std.proofs.lemmas.Fmt.{decimal_nonempty, digits_decimal, digits_value-decimal, first_decimal}
use Rattle.std.proofs.lemmas.Fmt.{length-decimal-le}
use Rattle.std.proofs.lemmas.Str.Parse.{IsNumeralModel, numerals_by_value}
use Rattle.c62_op.specs.Takes.{same_side}
use Rattle.c62_op.proofs.Registers.{same_reg-is}
use Rattle.c62_token.specs.declared.kind.Kind.TheVariants.{Register}
use Rattle.c62_token.specs.Number.{decimal_of, file_of, magnitude_of, negative, number_of, numbered, register_of}
use Rattle.c62_token.specs.Number.{signed_of}
use Rattle.c62_token.specs.Kind.{kind_of, mark_of, single_mark}
use Rattle.c62_token.proofs.SpelledTokens.{all_weaker, IsPiece, IsToken, word_end, word_piece, word_token, led_token}

-- ---- digits

pub own : IsNumeralModel (λ ds. list_all is_ascii_digit ds ≡ true) (digits_value 10)
own = numerals_by_value _ (search rules)

-- a number as it is written
record IsWritten (n : ℕ) (ds : List ℕ) : Type 0 where
  digits : list_all is_ascii_digit ds ≡ true
  some : 0 < length ds
  short : length ds ≤ 10
  read : magnitude_of ds ≡ Some n

leads : (n : ℕ) → n < 10 ^ 10 → (ltb 48 (get_or (decimal n) 0 0) || eqb (length (drop 1 (decimal n))) 0) ≡ true
unfolding digits
leads zero small = refl
leads (suc n) small = or_left _ _ (lt-ltb 48 _ (first_decimal (suc n) (omega arith) (omega arith)))

magnitude_back : (ds : List ℕ) → list_all is_ascii_digit ds ≡ true → 0 < length ds → length ds ≤ 10
    → (ltb 48 (get_or ds 0 0) || eqb (length (drop 1 ds)) 0) ≡ true → magnitude_of ds ≡ Some (digits_value 10 ds)
unfolding magnitude_of decimal_of
magnitude_back [] digits some short first = absurd (omega arith)
magnitude_back (d ∷ ds) digits some short first =
    let valued = all_weaker is_ascii_digit (λ (b : ℕ). ltb (digit_value b) 10) (d ∷ ds)
    (λ b here. grind (arith, nat_tests)) digits in
    rw (no_hexadecimal d ds digits, le-leb (length ds) 9 (omega arith), first, valued) refl
  where
    no_hexadecimal : (d : ℕ) (ds : List ℕ) → list_all is_ascii_digit (d ∷ ds) ≡ true
        → starts_with eqb (d ∷ ds) (codes "0x") ≡ false
    no_hexadecimal d [] digits = grind (arith, nat_tests)
    no_hexadecimal d (c ∷ ds) digits = grind (arith, nat_tests)

written : (n : ℕ) → n < 10 ^ 10 → IsWritten n (decimal n)
written n small =
    let digits = digits_decimal own n (omega arith) in
    let some = decimal_nonempty n (omega arith) in
    let short = length-decimal-le 10 n (omega arith) small (omega arith) in
    let read = rw (digits_value-decimal own n (omega arith)) at
    (magnitude_back (decimal n) digits some short (leads n small)) in
    record { digits = digits; some = some; short = short; read = read }

-- ---- what is neither a register nor a mark

-- a word that begins with a digit or a sign is no register
no_register : (b : ℕ) (w : List ℕ) → leb b 57 ≡ true → register_of (b ∷ w) ≡ None
unfolding register_of file_of
no_register b (d ∷ []) small = grind (arith, nat_tests)
no_register b (ten ∷ d ∷ []) small = grind (arith, nat_tests)
no_register b _ small = refl

-- a word is no mark
word_no_mark : (w : List ℕ) → list_all is_word_byte w ≡ true → mark_of w ≡ None
unfolding mark_of single_mark
word_no_mark (b ∷ []) words = grind (arith, nat_tests)
word_no_mark (b ∷ c ∷ []) words = grind (arith, nat_tests)
word_no_mark _ words = refl

negative_no_mark : (d : ℕ) (ds : List ℕ) → is_ascii_digit d ≡ true → mark_of (45 ∷ d ∷ ds) ≡ None
unfolding mark_of
negative_no_mark d [] digit = grind (arith, nat_tests)
negative_no_mark d (e ∷ ds) digit = refl

-- ---- numbers

-- a number that a line may hold
abbrev pub fits : ℤ → Bool
fits k = int_le (negative 2147483648) k && int_le k (pos 4294967295)

-- how a number is spelled: as a piece that reads as it
record IsNumber (k : ℤ) (text : List ℕ) : Type 0 where
  read : number_of text ≡ Some k
  piece : IsPiece word_end text (text ∷ []) (Number k ∷ []) 11

number_is : (k : ℤ) (b : ℕ) (w : List ℕ) → IsToken (b ∷ w) → mark_of (b ∷ w) ≡ None → leb b 57 ≡ true → length w ≤ 10
    → number_of (b ∷ w) ≡ Some k → IsNumber k (b ∷ w)
unfolding kind_of
number_is k b w token mark first short read =
    record {
      read = read;
      piece = word_piece (b ∷ w) (Number k) 11 token (rw (mark, no_register b w first, read) refl)
          (omega arith);
    }

unsigned : (n : ℕ) (ds : List ℕ) → IsWritten n ds → fits (pos n) ≡ true → IsNumber (pos n) ds
unfolding number_of signed_of
unsigned n [] w inside = absurd (omega (arith, w.some))
unsigned n (d ∷ ds) w inside =
    let digit = (and_parts (is_ascii_digit d) (list_all is_ascii_digit ds) w.digits).0 in
    let words = all_weaker is_ascii_digit is_word_byte (d ∷ ds) (λ b here. grind (arith, nat_tests)) w.digits in
    let plain : signed_of (d ∷ ds) ≡ option_map pos (magnitude_of (d ∷ ds)) = grind (arith, nat_tests) in
    number_is (pos n) d ds (word_token (d ∷ ds) w.some words) (word_no_mark (d ∷ ds) words) (grind (arith, nat_tests))
    (omega (arith, w.short))
    (rw (plain, w.read, inside) refl)

signed : (n : ℕ) (ds : List ℕ) → IsWritten (suc n) ds → fits (negsuc n) ≡ true → IsNumber (negsuc n) (45 ∷ ds)
unfolding number_of signed_of
signed n [] w inside = absurd (omega (arith, w.some))
signed n (d ∷ ds) w inside =
    let digit = (and_parts (is_ascii_digit d) (list_all is_ascii_digit ds) w.digits).0 in
    let words = all_weaker is_ascii_digit is_word_byte (d ∷ ds) (λ b here. grind (arith, nat_tests)) w.digits in
    number_is (negsuc n) 45 (d ∷ ds) (led_token 45 d ds refl (grind (arith, nat_tests)) refl words)
    (negative_no_mark d ds digit) refl w.short
    (rw (w.read, inside) refl)

spelled : (k : ℤ) → fits k ≡ true → IsNumber k (signed_decimal k)
spelled (pos n) inside = let small = leb-true n 4294967295 inside in unsigned n _ (written n (omega (arith, small)))
    inside
spelled (negsuc n) inside =
    let small = leb-true n 2147483647 (and_parts (leb n 2147483647) true inside).0 in signed n _
    (written (suc n) (omega (arith, small))) inside

pub number_piece : (k : ℤ) → fits k ≡ true
    → IsPiece word_end (signed_decimal k) (signed_decimal k ∷ []) (Number k ∷ []) 11
number_piece k inside = (spelled k inside).piece

pub number_back : (k : ℤ) → negative 2147483648 ≤ℤ k → k ≤ℤ pos 4294967295 → number_of (signed_decimal k) ≡ Some k
number_back k low high = (spelled k (search rules)).read

-- ---- registers

-- whether this register of a file was found
abbrev is_found : Option Reg → Side → ℕ → Bool
is_found None side n = false
is_found (Some reg) side n = same_side reg.side side && eqb reg.number n

found_is : (found : Option Reg) (reg : Reg) → is_found found reg.side reg.number ≡ true → found ≡ Some reg
found_is None reg is = absurd cc
found_is (Some found) reg is = ap (λ (r : Reg). Some r) (same_reg-is found reg is)

-- whether a word is one of a few bytes that reads as this register of a file
abbrev names : List ℕ → Side → ℕ → Bool
names w side n = is_found (register_of w) side n && list_all is_word_byte w && ltb 0 (length w) && leb (length w) 11

all_name : (side : Side) (n : ℕ) → n < 16 → names (file_letter side ++ decimal n) side n ≡ true
unfolding digits register_of file_of numbered
all_name A n small = agree_below_at (λ (k : ℕ). names (file_letter A ++ decimal k) A k) (λ (k : ℕ). true) 16 n refl
    small
all_name B n small = agree_below_at (λ (k : ℕ). names (file_letter B ++ decimal k) B k) (λ (k : ℕ). true) 16 n refl
    small

pub register_back : (reg : Reg) → register_of (register_name reg) ≡ Some reg
register_back reg =
    let named = all_name reg.side reg.number reg.in_range in found_is (register_of (register_name reg)) reg
    (grind (arith, nat_tests))

pub register_kind : (reg : Reg) → kind_of (register_name reg) ≡ Register reg
unfolding kind_of
register_kind reg =
    let named = all_name reg.side reg.number reg.in_range in
    rw (word_no_mark (register_name reg) (grind (arith, nat_tests)), register_back reg) refl

pub register_piece : (reg : Reg) → IsPiece word_end (register_name reg) (register_name reg ∷ []) (Register reg ∷ []) 11
register_piece reg =
    let w = register_name reg in
    let named = all_name reg.side reg.number reg.in_range in
    let token = word_token w (grind (arith, nat_tests)) (grind (arith, nat_tests)) in
    word_piece w (Register reg) 11 token (register_kind reg) (grind (arith, nat_tests))
