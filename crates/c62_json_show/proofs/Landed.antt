-- What lands by a document.
use Rattle.std.proofs.Common.{◌≡◌, ◌∙◌, ℕ, List, [], ◌∷◌, ◌++◌, refl, ap, sym}
use Rattle.std.specs.Prelude.{map}
use Rattle.std.specs.List.{flat_map}
use Rattle.std.proofs.lemmas.Grind.{flat_map-append}
use Rattle.std.proofs.lemmas.List.{map-append}
use Rattle.std.proofs.lemmas.List.Folds.{flat_map-map}
use Rattle.json.specs.Token.{Token}
use Rattle.c62_packet.specs.declared.placed.Placed.{Placed}
use Rattle.c62_grid.specs.declared.landing.Landing.{Landing}
use Rattle.c62_grid.specs.Landing.{landings_of, landings_by as landings_of_one}
use Rattle.c62_json_show.specs.Landings.{landing, landings}
use Rattle.c62_json_show.specs.Laws.{with_lines, AreThoseOfTheGrid}

abbrev tokens_of : ℕ × Landing → List Token
tokens_of each = landing each.0 each.1

abbrev lined : Placed → List (ℕ × Landing)
lined p = map (λ landed. (p.line, landed)) (landings_of_one p)

are_told : (placed : List Placed) → landings placed ≡ flat_map tokens_of (with_lines placed)
are_told [] = refl
are_told (p ∷ rest) =
    let own = flat_map-map tokens_of (λ (landed : Landing). (p.line, landed)) (landings_of_one p) in
    ap (λ tokens. flat_map (landing p.line) (landings_of_one p) ++ tokens) (are_told rest)
    ∙ (ap (λ tokens. tokens ++ flat_map tokens_of (with_lines rest)) (sym own)
    ∙ sym (flat_map-append tokens_of (lined p) (with_lines rest)))

unlined : (line : ℕ) (found : List Landing)
    → map (λ (each : ℕ × Landing). each.1) (map (λ (landed : Landing). (line, landed)) found) ≡ found
unlined line [] = refl
unlined line (landed ∷ found) = ap (λ others. landed ∷ others) (unlined line found)

are_same : (placed : List Placed) → map (λ (each : ℕ × Landing). each.1) (with_lines placed) ≡ landings_of placed
are_same [] = refl
are_same (p ∷ rest) =
    map-append (λ (each : ℕ × Landing). each.1) (lined p) (with_lines rest)
    ∙ (ap (λ found. found ++ map (λ (each : ℕ × Landing). each.1) (with_lines rest))
    (unlined p.line (landings_of_one p))
    ∙ ap (λ found. landings_of_one p ++ found) (are_same rest))

pub are_those : (placed : List Placed) → AreThoseOfTheGrid placed
are_those placed = record { told = are_told placed; same = are_same placed }
