use Rattle.std.proofs.Common.{take}
use Rattle.std.specs.List.{AllZip}
use Rattle.c62_standing.specs.Standing.{IsStanding}
use Rattle.c62_standing.proofs.standing.shown_as_they_stand.Given as goal

abbrev pub invariant-loop-block : goal.invariant-loop-block
invariant-loop-block l = AllZip (IsStanding l.details) (take l.block-index l.packets) l.shown.items
