use Rattle.std.proofs.Common.{All}
use Rattle.c62_explain_packets.specs.Remarks.{IsPlaced}
use Rattle.c62_explain_packets.proofs.remarks.all_placed.Given as goal

-- those that were taken are placed
abbrev pub invariant-loop-finding : goal.invariant-loop-finding
invariant-loop-finding l = All (IsPlaced l.isa l.text) l.all.items
