-- Texts of bytes that are UTF-8.
use Rattle.std.specs.Prelude.{◌≡◌, ℕ, List, IsAscii}
use Rattle.std.proofs.Common.{ap, sym, ◌∙◌}
use Rattle.std.specs.Str.{IsUtf8}
use Rattle.std.specs.Str.Lossy.{utf8_lossy}
use Rattle.std.proofs.lemmas.Str.{IsUtf8-from_ascii, utf8_lossy-IsUtf8}
use Rattle.json.specs.Token.{string, key}
use Rattle.c62_json.specs.Document.{key_of, text}

pub stands : (bytes other : List ℕ) → IsUtf8 bytes → other ≡ bytes → utf8_lossy bytes ≡ other
stands bytes other is same = utf8_lossy-IsUtf8 bytes is ∙ sym same

pub text_stands : (bytes : List ℕ) → IsAscii bytes → text bytes ≡ string bytes
text_stands bytes ascii = ap string (utf8_lossy-IsUtf8 bytes (IsUtf8-from_ascii bytes ascii))

pub key_stands : (bytes : List ℕ) → IsAscii bytes → key_of bytes ≡ key bytes
key_stands bytes ascii = ap key (utf8_lossy-IsUtf8 bytes (IsUtf8-from_ascii bytes ascii))
