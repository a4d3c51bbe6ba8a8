use Rattle.std.proofs.Common.{◌≡◌, ◌++◌, List, take}
use Rattle.std.specs.List.{filter_map}
use Rattle.c62_reach.specs.Index.{Indexes}
use Rattle.c62_reach.specs.Part.{Part}
use Rattle.c62_reach.specs.Reach.{part_meant}
use Rattle.c62_reach.proofs.search.push_all_named.Given as goal

abbrev pub invariant-loop-name : goal.invariant-loop-name
invariant-loop-name l = (parts : List Part) → Indexes parts l.index
    → l.leads.items ≡ l.fn.leads.items ++ filter_map (λ name. part_meant l.file name parts) (take l.name-index l.names)
