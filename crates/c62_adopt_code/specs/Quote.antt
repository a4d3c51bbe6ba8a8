-- Whether a line has more than one statement: GNU's assembler parts them by `@`, which is no part of a string or of a comment (docs/ADOPT.md,
-- "Directives").
use Rattle.std.specs.Prelude.{ℕ, Bool, true, false, not, ◌==◌, ◌&&◌, ◌||◌, if◌then◌else◌, nat_eq, List, [], ◌∷◌, codes}
use Rattle.std.specs.List.{list_any, starts_with}
use Rattle.c62_token.specs.Kind.{Word}
use Rattle.c62_adopt_code.specs.declared.quote.Quote.{Quote}
use Rattle.c62_adopt_code.specs.declared.quote.Quote.TheVariants.{Outside, Inside, Escaped, Letter, Closing}

-- what GNU's assembler has behind an `@` that parts nothing: the types of symbols and of sections
abbrev pub kinds_named : List Word
kinds_named =
    codes "function" ∷ codes "object" ∷ codes "tls_object" ∷ codes "common" ∷ codes "notype" ∷ codes "gnu_unique_object"
    ∷ codes "progbits" ∷ codes "nobits" ∷ codes "note" ∷ codes "init_array" ∷ codes "fini_array" ∷ codes "preinit_array" ∷ []

abbrev pub names_kind : List ℕ → Bool
names_kind bytes = list_any (λ kind. starts_with nat_eq bytes kind) kinds_named

-- Behind this byte: `"` opens and closes a string, `\` takes the next byte of one as it is, and `'` that of a letter, which another `'` may close.
abbrev pub opened_by : ℕ → Quote
opened_by b = if b == 34 then Inside else (if b == 39 then Letter else Outside)

abbrev pub quote_behind : Quote → ℕ → Quote
quote_behind Outside b = opened_by b
quote_behind Inside b = if b == 34 then Outside else (if b == 92 then Escaped else Inside)
quote_behind Escaped b = Inside
quote_behind Letter b = Closing
quote_behind Closing b = if b == 39 then Outside else opened_by b

abbrev pub is_outside : Quote → Bool
is_outside Outside = true
is_outside Closing = true
is_outside _ = false

abbrev pub is_string : Quote → Bool
is_string Inside = true
is_string Escaped = true
is_string _ = false

-- a statement is parted off: by an `@` that stands before no type, or as a string doesn't end
abbrev pub parts : Quote → List ℕ → Bool
parts quote [] = is_string quote
parts quote (b ∷ bytes) =
    if is_outside quote && b == 59 then false
    else is_outside quote && b == 64 && not (names_kind bytes) || parts (quote_behind quote b) bytes
