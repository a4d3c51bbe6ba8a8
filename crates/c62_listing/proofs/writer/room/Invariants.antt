use Rattle.std.proofs.Common.{◌≤◌, ◌*◌}
use Rattle.c62_listing.proofs.writer.room.Given as goal

abbrev pub invariant-loop-block : goal.invariant-loop-block
invariant-loop-block l = l.room ≤ 16704 * l.block-index
