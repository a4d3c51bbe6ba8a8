use Rattle.std.proofs.Common.{append_assoc, rules}
use Rattle.c62_check_loop.proofs.Naming.{flat_map-more}
use Rattle.c62_check_loops.proofs.reading.push_file.Goals as goal

pub loop-number-preserved : goal.loop-number-preserved
loop-number-preserved c = search (rules, flat_map-more, append_assoc)
