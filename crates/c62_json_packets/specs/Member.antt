-- Members of objects, with their names (docs/JSON.md).
use Rattle.std.specs.Prelude.{ℕ, ℤ, List, [], ◌∷◌}
use Rattle.std.specs.Fmt.{signed_decimal}
use Rattle.json.specs.Token.{Token, key, number, string, null}
use Rattle.c62_op.specs.declared.register.Reg.{Reg}
use Rattle.c62_op.specs.Name.{register_name}
use Rattle.c62_json.specs.Document.{count, object, array}

unfoldable pub number_member : (name : List ℕ) → ℕ → List Token
number_member name value = key name ∷ count value ∷ []

unfoldable pub signed_member : (name : List ℕ) → ℤ → List Token
signed_member name value = key name ∷ number (signed_decimal value) ∷ []

unfoldable pub text_member : (name text : List ℕ) → List Token
text_member name text = key name ∷ string text ∷ []

unfoldable pub null_member : (name : List ℕ) → List Token
null_member name = key name ∷ null ∷ []

-- a register by its name, as `"A5"`
unfoldable pub register : Reg → Token
register reg = string (register_name reg)

unfoldable pub register_member : (name : List ℕ) → Reg → List Token
register_member name reg = key name ∷ register reg ∷ []

unfoldable pub array_member : (name : List ℕ) → (values : List Token) → List Token
array_member name values = key name ∷ array values

unfoldable pub object_member : (name : List ℕ) → (members : List Token) → List Token
object_member name members = key name ∷ object members
