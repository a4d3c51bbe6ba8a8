-- Labels are texts.
use Rattle.std.proofs.Common.{arith, ◌≡◌, ℕ, ◌<◌, List, [], ◌∷◌, length, true}
use Rattle.std.specs.Prelude.{◌&&◌, All, nat_le, not, is_some}
use Rattle.std.specs.Char.{is_ascii_digit}
use Rattle.std.specs.List.{list_all}
use Rattle.std.specs.Str.{IsUtf8}
use Rattle.std.proofs.lemmas.Bool.{and_parts}
use Rattle.std.proofs.lemmas.Bool.Decides.{nat_tests}
use Rattle.std.proofs.lemmas.List.Elements.{All-nil, All-cons}
use Rattle.std.proofs.lemmas.Str.{IsUtf8-from_ascii}
use Rattle.std.proofs.lemmas.Str.Ascii.{IsAscii-from_all}
use Rattle.c62_token.specs.Token.{begins, is_word_byte}
use Rattle.c62_token.specs.Number.{is_label, register_of}

word_byte_is_ascii : (b : ℕ) → is_word_byte b ≡ true → b < 128
word_byte_is_ascii b h = grind (arith, nat_tests)

all_ascii : (bytes : List ℕ) → list_all is_word_byte bytes ≡ true → All (λ b. b < 128) bytes
all_ascii [] h = All-nil (λ (b : ℕ). b < 128)
all_ascii (b ∷ bytes) h =
    let parts = and_parts (is_word_byte b) (list_all is_word_byte bytes) h in
    All-cons (λ (x : ℕ). x < 128) b bytes (word_byte_is_ascii b parts.0) (all_ascii bytes parts.1)

pub label-utf8 : (word : List ℕ) → is_label word ≡ true → IsUtf8 word
unfolding is_label
label-utf8 word h =
    let one = and_parts (begins (λ b. not (is_ascii_digit b)) word && list_all is_word_byte word && nat_le (length word)
    32) (not (is_some (register_of word))) h in
    let two = and_parts (begins (λ b. not (is_ascii_digit b)) word && list_all is_word_byte word)
    (nat_le (length word) 32) one.0 in
    let three = and_parts (begins (λ b. not (is_ascii_digit b)) word) (list_all is_word_byte word) two.0 in
    IsUtf8-from_ascii word (IsAscii-from_all word (all_ascii word three.1))
