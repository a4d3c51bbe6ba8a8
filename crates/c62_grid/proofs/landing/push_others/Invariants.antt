use Rattle.std.proofs.Common.{◌≡◌, ◌++◌, drop}
use Rattle.std.specs.Prelude.{codes, string_bytes}
use Rattle.std.specs.List.{flat_map}
use Rattle.c62_grid.specs.Landing.{landing_words}
use Rattle.c62_grid.proofs.landing.push_others.Given as goal

abbrev pub invariant-loop-other : goal.invariant-loop-other
invariant-loop-other l =
    string_bytes l.out ++ flat_map (λ other. codes ", " ++ landing_words other) (drop l.other-index l.others)
    ≡ string_bytes l.fn.out ++ flat_map (λ other. codes ", " ++ landing_words other) l.others
