use Rattle.std.proofs.Common.{◌≡◌, ◌++◌, drop, All, map}
use Rattle.c62_explain.specs.Placed.{IsPlaced}
use Rattle.c62_explain.proofs.placed.all_placed.Given as goal

-- the faults that were taken, and with the others they are all
abbrev pub invariant-loop-fault : goal.invariant-loop-fault
invariant-loop-fault l =
    (map (λ placed. placed.fault) l.all.items ++ drop l.fault-index l.faults ≡ l.faults)
    × All (IsPlaced l.isa l.text) l.all.items
