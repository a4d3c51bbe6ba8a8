-- The words of a file of settings (docs/COMMANDS.md, "Files").
use Rattle.std.specs.Prelude.{ℕ, ◌==◌, ◌||◌, Bool, false, not, List, [], ◌∷◌, ◌++◌, map, if◌then◌else◌}
use Rattle.c62_files.specs.declared.settings.Place.{Place as Standing}
use Rattle.c62_files.specs.declared.settings.Place.TheVariants.{Start, Within, Comment}
use Rattle.c62_files.specs.declared.settings.Reading.{Reading}

-- a line feed, a carriage return, a tab or a space
abbrev pub is_blank : ℕ → Bool
is_blank byte = byte == 10 || byte == 13 || byte == 9 || byte == 32

-- A byte is part of a word where it is no blank and in no comment. A comment begins with `;`, or with `*` at the start of a line.
abbrev pub is_part : Standing → ℕ → Bool
is_part Comment byte = false
is_part Start byte = not (is_blank byte || byte == 59 || byte == 42)
is_part Within byte = not (is_blank byte || byte == 59)

-- where the next byte stands
abbrev pub after : Standing → ℕ → Standing
after Comment byte = if byte == 10 then Start else Comment
after Start byte = if byte == 10 then Start else (if byte == 59 || byte == 42 then Comment else Within)
after Within byte = if byte == 10 then Start else (if byte == 59 then Comment else Within)

-- a word that ends
abbrev pub ended : List ℕ → List (List ℕ)
ended [] = []
ended (byte ∷ bytes) = (byte ∷ bytes) ∷ []

-- the words from a place on, where this much of one has been read
unfoldable pub words_from : Standing → List ℕ → List ℕ → List (List ℕ)
words_from place word [] = ended word
words_from place word (byte ∷ bytes) =
    if is_part place byte then words_from (after place byte) (word ++ byte ∷ []) bytes
    else ended word ++ words_from (after place byte) [] bytes

-- the words of a file
abbrev pub settings_words : List ℕ → List (List ℕ)
settings_words bytes = words_from Start [] bytes

-- the words that were read, and those that are still to come
abbrev pub told : Reading → List ℕ → List (List ℕ)
told reading rest = map (λ word. word.items) reading.words.items ++ words_from reading.place reading.word.items rest
