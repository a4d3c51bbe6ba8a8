-- Hexadecimal digits stand in a document as they are.
use Rattle.std.proofs.Common.{◌≡◌, ℕ, zero, suc, ◌/◌, ◌%◌, ◌<◌, ◌==◌, List, [], ◌∷◌, arith, if◌then◌else◌}
use Rattle.std.specs.Prelude.{IsAscii}
use Rattle.std.proofs.lemmas.Bool.Decides.{nat_tests}
use Rattle.std.proofs.lemmas.Str.{IsAscii-append}
use Rattle.std.proofs.lemmas.Str.Ascii.{IsAscii-nil}
use Rattle.json.specs.Token.{key, string}
use Rattle.c62_op.specs.Word.{sum}
use Rattle.c62_report.specs.Report.{address_text, hex, hex_digit}
use Rattle.c62_json.specs.Document.{key_of, text}
use Rattle.c62_json.proofs.Texts.{key_stands, text_stands}
use Rattle.c62_json_report.specs.Machine.{digits}

one_digit : (digit : ℕ) → digit < 16 → IsAscii (hex_digit digit ∷ [])
one_digit digit small = grind (arith, nat_tests, small)

pub hex_ascii : (count value : ℕ) → IsAscii (hex count value)
unfolding hex
hex_ascii zero value = IsAscii-nil
hex_ascii (suc more) value =
    IsAscii-append (hex more (value / 16)) (hex_digit (value % 16) ∷ []) (hex_ascii more (value / 16))
    (one_digit (value % 16) (omega arith))

pub address_stands : (base place : ℕ) → key_of (address_text base place) ≡ key (address_text base place)
address_stands base place = key_stands (address_text base place)
    (hex_ascii (if base == 0 then 4 else 8) (sum base place))

pub digits_ascii : (bytes : List ℕ) → IsAscii (digits bytes)
unfolding digits
digits_ascii [] = IsAscii-nil
digits_ascii (byte ∷ bytes) = IsAscii-append (hex 2 byte) (digits bytes) (hex_ascii 2 byte) (digits_ascii bytes)

pub digits_stand : (bytes : List ℕ) → text (digits bytes) ≡ string (digits bytes)
digits_stand bytes = text_stands (digits bytes) (digits_ascii bytes)
