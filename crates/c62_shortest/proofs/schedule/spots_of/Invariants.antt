use Rattle.std.proofs.Common.{◌≡◌, map, take, Some}
use Rattle.c62_shortest.proofs.schedule.spots_of.Given as goal

abbrev pub invariant-loop-number : goal.invariant-loop-number
invariant-loop-number l = map Some l.spots.items ≡ take l.number l.board.spots
