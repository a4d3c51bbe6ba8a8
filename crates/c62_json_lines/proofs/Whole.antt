-- A document of lines, from its tokens.
use Rattle.std.proofs.Common.{◌≡◌, ℕ, List, [], ◌∷◌, ◌++◌, arith}
use Rattle.std.specs.Prelude.{codes}
use Rattle.json.specs.Token.{Token, begin_array, end_array, end_object, key}
use Rattle.json.specs.Print.{print}
use Rattle.c62_json.specs.Document.{array, document, head}
use Rattle.c62_json_lines.specs.Lines.{line_values, lines_document}

pub whole : (command bytes : List ℕ) (tokens : List Token) (before items : List ℕ)
    → before ≡ [] → tokens ≡ head command ++ key (codes "lines") ∷ array (line_values bytes)
    → items ≡ before ++ print (tokens ++ end_object ∷ []) ++ codes "\n" → items ≡ lines_document command bytes
whole command bytes tokens before items none all is = rw (is, none, all) (grind arith)
