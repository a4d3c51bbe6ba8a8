use Rattle.std.proofs.Common.{◌≡◌, take}
use Rattle.c62_row.specs.Fields.{EachPlace, field_at, times_at}
use Rattle.c62_row.proofs.row.Uses.of.Given as goal

abbrev pub invariant-loop-resource : goal.invariant-loop-resource
invariant-loop-resource l = EachPlace
    (λ place. field_at l.words place ≡ times_at place (take l.resource-index l.resource-items))
