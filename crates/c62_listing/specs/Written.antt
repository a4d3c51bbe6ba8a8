-- What is written behind a text.
use Rattle.std.specs.Prelude.{◌≡◌, ℕ, List, ◌++◌, string_bytes}
use Rattle.std.specs.declared.string.String.{String}
use Rattle.c62_listing.specs.Listing.{text_of}

-- these bytes were added to the text
abbrev pub AddsText : {Z : Type 0} → String Z → List ℕ → String Z → Type 0
AddsText old bytes new = string_bytes new ≡ string_bytes old ++ bytes

-- these lines were, each with its end
abbrev pub AddsLines : {Z : Type 0} → String Z → List (List ℕ) → String Z → Type 0
AddsLines old lines new = AddsText old (text_of lines) new
