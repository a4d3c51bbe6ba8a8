-- The document of a text (docs/JSON.md, "Lines").
use Rattle.std.specs.Prelude.{ℕ, List, ◌∷◌, map, codes}
use Rattle.json.specs.Token.{Token, key}
use Rattle.c62_read.specs.Text.{lines_of}
use Rattle.c62_json.specs.Document.{array, document, text}

-- each line, without its end
abbrev pub line_values : List ℕ → List Token
line_values bytes = map text (lines_of bytes)

abbrev pub lines_document : (command bytes : List ℕ) → List ℕ
lines_document command bytes = document command (key (codes "lines") ∷ array (line_values bytes))
