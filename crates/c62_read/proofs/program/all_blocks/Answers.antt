use Rattle.c62_read.proofs.Common.{◌≡◌, ◌∷◌, length, length-append, append_assoc, map-append, map, ap, arith, ◌∙◌}
use Rattle.c62_read.proofs.Common.{into_iter_items, and_parts}
use Rattle.c62_read.proofs.Common.{BlockReader, block_in, block_parts, draft_of, is_whole}
use Rattle.c62_read.proofs.BlockLemmas.{number_is}
use Rattle.c62_read.proofs.program.all_blocks.Goals as goal

pub loop-block-preserved : goal.loop-block-preserved
loop-block-preserved c =
    let block = c.in-Some.block in
    let taken : into_iter_items c.loop-block.rest ≡ block ∷ into_iter_items c.next.new.self = c.in-Some.ensures.items in
    let labels = c.deref-in-Some.ensures.value ∙ c.in_ok-labels.ensures
    ∙ ap (map (λ (b : BlockReader). b.label)) c.deref.ensures.value in
    let number = rw (labels, number_is c.args.blocks.items block.target) at c.target_number-number.ensures in
    let made : block_parts c.into_block.result ≡ block_in (map draft_of c.args.blocks.items) (draft_of block) = rw
    (← number) c.into_block.ensures in
    let pushed = simp length-append at (ap length c.in_ok-push.ensures.items) in
    record {
      so_far = rw (c.in_ok-push.ensures.items, map-append, made, append_assoc)
          (rw taken at c.loop-block.invariant.so_far);
      count = omega (arith, pushed, ap length taken, c.loop-block.invariant.count);
      whole = (and_parts (is_whole (draft_of block)) _ (rw taken at c.loop-block.invariant.whole)).1;
    }
