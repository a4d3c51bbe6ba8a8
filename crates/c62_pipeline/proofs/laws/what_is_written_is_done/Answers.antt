use Rattle.c62_pipeline.proofs.Told.{written_done}
use Rattle.c62_pipeline.proofs.laws.what_is_written_is_done.Goals as goal

pub returns : goal.returns
returns c = written_done
