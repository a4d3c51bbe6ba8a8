use Rattle.std.proofs.Common.{◌≡◌, ◌+◌, ◌≤◌, length, map}
use Rattle.c62_listing_reader.specs.Reading.{draft_open}
use Rattle.c62_listing_reader.proofs.PacketLemmas.{IsLeft}
use Rattle.c62_listing_reader.proofs.reader.packets_of.Given as goal
use Rattle.c62_read.specs.declared.limits.TheConstants.{MOST_BLOCKS}

abbrev pub invariant-loop-block : goal.invariant-loop-block
invariant-loop-block l = record {
  walk : IsLeft (map draft_open l.fn.blocks.items) l.packets l.left.items l.number;
  count : l.number ≡ length l.packets;
  few : l.number + length l.left.items ≤ MOST_BLOCKS;
}

abbrev pub decreases-loop-block : goal.decreases-loop-block
decreases-loop-block l = length l.left.items
