-- The dependences of each instruction.
use Rattle.std.specs.Prelude.{◌≡◌, ℕ, List, map}
use Rattle.std.specs.List.{range_with_len}
use Rattle.smallvec.specs.SmallVec.{SmallVec}
use Rattle.c62_depend.specs.declared.links.Link.{Link}

-- what lists hold
abbrev pub links_of : List (SmallVec Link) → List (List Link)
links_of lists = map (λ list. list.items) lists

-- the lists f 0, f 1 .., so many of them
abbrev pub AreLists : (ℕ → List Link) → ℕ → List (SmallVec Link) → Type 0
AreLists f count lists = links_of lists ≡ map f (range_with_len 0 count)
