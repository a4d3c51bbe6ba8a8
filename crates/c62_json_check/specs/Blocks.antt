-- What is told of a block, as an object (docs/JSON.md, "check").
use Rattle.std.specs.Prelude.{ℕ, ℤ, List, [], ◌∷◌, ◌++◌, Option, Some, None, codes}
use Rattle.std.specs.Fmt.{signed_decimal}
use Rattle.std.specs.List.{flat_map}
use Rattle.json.specs.Token.{Token, key, null, string, number}
use Rattle.c62_json.specs.Document.{array, count, object, text}
use Rattle.c62_reason.specs.Words.{reason_words}
use Rattle.c62_check.specs.declared.early.Early.{Early}
use Rattle.c62_check.specs.declared.verdict.Verdict.{Verdict as Answer}
use Rattle.c62_check.specs.declared.verdict.Verdict.TheVariants.{Same, Missing, Extra, TooEarly}

-- cycles, with a sign where they are fewer than 0
abbrev pub signed : ℤ → Token
signed cycles = number (signed_decimal cycles)

-- ---- an instruction that comes too early

-- its line, and that of the other
unfoldable pub early_lines : Early → List Token
early_lines early = key (codes "line") ∷ count early.line ∷ key (codes "after") ∷ count early.after ∷ []

-- how many cycles behind the other it must come, how many it does, and why it must
unfoldable pub early_ends : Early → List Token
early_ends early =
    key (codes "needs") ∷ signed early.needs ∷ key (codes "has") ∷ signed early.has
    ∷ key (codes "because") ∷ text (reason_words early.reason) ∷ []

unfoldable pub early_members : Early → List Token
early_members early = early_lines early ++ early_ends early

-- ---- a block

-- the line of which a verdict speaks, if any
unfoldable pub line_value : Option ℕ → Token
line_value None = null
line_value (Some line) = count line

unfoldable pub told_members : (block : ℕ) → (word : List ℕ) → (line : Option ℕ) → List Early → List Token
told_members block word line early =
    key (codes "block") ∷ count block ∷ key (codes "verdict") ∷ string word ∷ key (codes "line") ∷ line_value line
    ∷ key (codes "early") ∷ array (flat_map (λ each. object (early_members each)) early)

-- the object that tells of a block a word, a line, and what comes too early
abbrev pub told : (block : ℕ) → (word : List ℕ) → (line : Option ℕ) → List Early → List Token
told block word line early = object (told_members block word line early)

-- that of a block and its verdict
unfoldable pub verdict_object : (block : ℕ) → Answer → List Token
verdict_object block Same = told block (codes "same") None []
verdict_object block (Missing line) = told block (codes "missing") (Some line) []
verdict_object block (Extra line) = told block (codes "extra") (Some line) []
verdict_object block (TooEarly early) = told block (codes "early") None early.items
