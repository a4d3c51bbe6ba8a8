-- How parts are marked that are reached.
use Rattle.std.specs.Prelude.{ℕ, Bool, true, false, not, ◌&&◌, nat_lt, if◌then◌else◌, List, [], ◌∷◌, ◌++◌, length, slice_index_or, slice_set, replicate}
use Rattle.c62_reach.specs.declared.search.Search.{Search}

-- the mark of each part, and the parts that are marked and wait to be looked at
pub record Found : Type 0 where
  pub marks : List Bool
  pub waiting : List ℕ

abbrev pub found_of : Search → Found
found_of search = record { marks = search.marks.items; waiting = search.waiting.items }

abbrev pub none_found : ℕ → Found
none_found parts = record { marks = replicate parts false; waiting = [] }

abbrev pub is_new : ℕ → Found → Bool
is_new k found = nat_lt k (length found.marks) && not (slice_index_or found.marks k false)

-- a part that isn't marked is marked, and waits
abbrev pub marked : ℕ → Found → Found
marked k found =
    if is_new k found then (record { marks = slice_set found.marks k true; waiting = found.waiting ++ k ∷ [] })
    else found

unfoldable pub all_marked : List ℕ → Found → Found
all_marked [] found = found
all_marked (k ∷ numbers) found = all_marked numbers (marked k found)
