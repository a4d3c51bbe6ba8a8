use Rattle.c62_live.proofs.StillRead.{live_is_still_read}
use Rattle.c62_live.proofs.laws.live_is_still_read.Goals as goal

pub returns : goal.returns
returns c = live_is_still_read
