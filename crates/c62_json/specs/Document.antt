-- What documents are made of (docs/JSON.md; RFC 8259).
use Rattle.std.specs.Prelude.{◌≡◌, ℕ, List, [], ◌∷◌, ◌++◌, Result, OnOk, Option, Some, None, codes, decimal}
use Rattle.std.specs.Str.Lossy.{utf8_lossy}
use Rattle.json.specs.Token.{Token, begin_object, end_object, begin_array, end_array, key, string, number, null}
use Rattle.json.specs.Print.{print}
use Rattle.json.specs.Written.{Written}
use Rattle.c62_json.specs.declared.version.TheConstants.{VERSION}

-- Behind what was written these tokens are.
abbrev pub Adds : {E : Type 0} → Result (Unit {0}) E → Written → Written → List Token → Type 0
Adds result old new tokens = OnOk result ((new.tokens ≡ old.tokens ++ tokens) × (new.before ≡ old.before))

-- a text of bytes; what is no UTF-8 stands as U+FFFD
abbrev pub text : List ℕ → Token
text bytes = string (utf8_lossy bytes)

-- the same as the name of a member
abbrev pub key_of : List ℕ → Token
key_of bytes = key (utf8_lossy bytes)

abbrev pub count : ℕ → Token
count n = number (decimal n)

-- the tokens of an object with these members, and of an array with these values
abbrev pub object : List Token → List Token
object members = begin_object ∷ members ++ end_object ∷ []

abbrev pub array : List Token → List Token
array values = begin_array ∷ values ++ end_array ∷ []

-- what each document begins with: the version and the command
abbrev pub head : List ℕ → List Token
head command = begin_object ∷ key (codes "c62") ∷ string VERSION.now ∷ key (codes "command") ∷ string command ∷ []

-- the text of a command's document, which has these members behind the first two, and ends its line
abbrev pub document : (command : List ℕ) → (members : List Token) → List ℕ
document command members = print (head command ++ members ++ end_object ∷ []) ++ codes "\n"
