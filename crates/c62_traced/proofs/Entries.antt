-- Events of one cycle, one behind the other.
use Rattle.std.proofs.Common.{◌≡◌, ◌∙◌, ℕ, List, [], ◌∷◌, ◌++◌, refl, ap}
use Rattle.std.specs.List.{flat_map}
use Rattle.c62_packet.specs.declared.placed.Placed.{Placed}
use Rattle.c62_trace.specs.Event.{Event, Entry, entries}

pub entries_append : (cycle : ℕ) (xs ys : List Event)
    → entries cycle (xs ++ ys) ≡ entries cycle xs ++ entries cycle ys
entries_append cycle [] ys = refl
entries_append cycle (x ∷ xs) ys = ap (λ (rest : List Entry). (cycle, x) ∷ rest) (entries_append cycle xs ys)

pub entries_flat : (cycle : ℕ) (f : Placed → List Event) (ps : List Placed)
    → entries cycle (flat_map f ps) ≡ flat_map (λ (p : Placed). entries cycle (f p)) ps
entries_flat cycle f [] = refl
entries_flat cycle f (p ∷ ps) =
    entries_append cycle (f p) (flat_map f ps)
    ∙ ap (λ rest. entries cycle (f p) ++ rest) (entries_flat cycle f ps)
