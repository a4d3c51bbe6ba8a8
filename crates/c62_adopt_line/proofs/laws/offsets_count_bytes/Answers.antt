use Rattle.c62_adopt_line.proofs.Offsets.{accesses_move, counts_bytes}
use Rattle.c62_adopt_line.proofs.laws.offsets_count_bytes.Goals as goal

pub returns-clause-sizes : goal.returns-clause-sizes
returns-clause-sizes c = accesses_move

pub returns-clause-counts : goal.returns-clause-counts
returns-clause-counts c = counts_bytes
