use Rattle.c62_read.proofs.Common.{◌≡◌, take, map}
use Rattle.c62_read.proofs.program.block_labels.Given as goal

abbrev pub invariant-loop-block : goal.invariant-loop-block
invariant-loop-block l = l.labels.items ≡ map (λ block. block.label) (take l.block-index l.blocks)
