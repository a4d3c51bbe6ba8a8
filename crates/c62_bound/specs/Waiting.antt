-- What waits for a room, by its heights.
use Rattle.std.specs.Prelude.{◌≡◌, ◌⊎◌, ℕ, zero, suc, List, [], ◌∷◌, ◌++◌}
use Rattle.c62_op.specs.declared.register.Side.{Side}
use Rattle.c62_insn.specs.declared.insn.Insn.{Insn}
use Rattle.c62_depend.specs.Height.{height}
use Rattle.c62_bound.specs.declared.need.Kind.{Kind}
use Rattle.c62_bound.specs.Bound.{WaitsFor}

-- the heights of those of the first numbers that wait for this room, in their order
abbrev pub AreWaiting : List Insn → Kind → Side → ℕ → List ℕ → Type 0
AreWaiting block kind side zero heights = heights ≡ []
AreWaiting block kind side (suc n) heights =
    (WaitsFor block kind side n × ((before : List ℕ) × (heights ≡ before ++ height block n ∷ []) × AreWaiting block kind side n before))
    ⊎ ((WaitsFor block kind side n → ⊥) × AreWaiting block kind side n heights)
