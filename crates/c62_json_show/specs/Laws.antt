-- What holds of shown blocks.
use Rattle.std.specs.Prelude.{◌≡◌, ℕ, List, map}
use Rattle.std.specs.List.{flat_map}
use Rattle.c62_packet.specs.declared.placed.Placed.{Placed}
use Rattle.c62_grid.specs.declared.landing.Landing.{Landing}
use Rattle.c62_grid.specs.Landing.{landings_of, landings_by as landings_of_one}
use Rattle.c62_json_show.specs.Landings.{landing, landings}

-- what lands of these instructions, each with the line of its instruction
abbrev pub with_lines : List Placed → List (ℕ × Landing)
with_lines placed = flat_map (λ p. map (λ landed. (p.line, landed)) (landings_of_one p)) placed

-- the landings of a document are those of the grid, in their order, with their lines
pub record AreThoseOfTheGrid (placed : List Placed) : Type 0 where
  pub told : landings placed ≡ flat_map (λ each. landing each.0 each.1) (with_lines placed)
  pub same : map (λ each. each.1) (with_lines placed) ≡ landings_of placed
