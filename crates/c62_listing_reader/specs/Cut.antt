-- A line that is cut off a text.
use Rattle.std.specs.Prelude.{◌≡◌, ℕ, List, [], ◌∷◌, Option, MatchOption}
use Rattle.c62_listing_reader.specs.declared.text.Cut.{Cut}
use Rattle.c62_listing_reader.specs.Text.{Line, lines_in}

abbrev pub line_cut : Cut → Line
line_cut cut = record { bytes = cut.bytes.now; fed = cut.fed }

-- the first line of a text, where it has one
abbrev pub CutsFirst : List ℕ → Option Cut → Type 0
CutsFirst text found = MatchOption found (lines_in text ≡ []) (λ cut. lines_in text ≡ line_cut cut ∷ lines_in cut.rest.now)
