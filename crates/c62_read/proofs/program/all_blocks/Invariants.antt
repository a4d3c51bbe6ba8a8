use Rattle.c62_read.proofs.Common.{◌≡◌, ◌+◌, ◌++◌, length, true, map, list_all, into_iter_items, block_in, block_parts}
use Rattle.c62_read.proofs.Common.{draft_of, is_whole}
use Rattle.c62_read.proofs.program.all_blocks.Given as goal

abbrev pub invariant-loop-block : goal.invariant-loop-block
invariant-loop-block l = record {
  so_far : map block_parts l.made.items ++ map (block_in (map draft_of l.fn.blocks.items))
      (map draft_of (into_iter_items l.rest))
      ≡ map (block_in (map draft_of l.fn.blocks.items)) (map draft_of l.fn.blocks.items);
  count : length l.made.items + length (into_iter_items l.rest) ≡ length l.fn.blocks.items;
  whole : list_all is_whole (map draft_of (into_iter_items l.rest)) ≡ true;
}

abbrev pub decreases-loop-block : goal.decreases-loop-block
decreases-loop-block l = length (into_iter_items l.rest)
