use Rattle.c62_loop.proofs.Kept.{kept_in_more_passes}
use Rattle.c62_loop.proofs.laws.kept_in_more_passes.Goals as goal

pub returns : goal.returns
returns c = kept_in_more_passes
