use Rattle.std.proofs.Common.{length}
use Rattle.c62_unpack.proofs.block.+has_branch_last.Given as goal

abbrev pub decreases-has_branch_last : goal.decreases-has_branch_last
decreases-has_branch_last l = length l.entries.now
