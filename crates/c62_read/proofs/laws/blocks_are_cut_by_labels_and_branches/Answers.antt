use Rattle.c62_read.proofs.ProgramLaws.{has_cut_blocks}
use Rattle.c62_read.proofs.laws.blocks_are_cut_by_labels_and_branches.Goals as goal

pub returns : goal.returns
returns c = has_cut_blocks
