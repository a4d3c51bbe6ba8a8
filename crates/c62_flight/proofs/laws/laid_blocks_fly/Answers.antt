use Rattle.c62_flight.proofs.Laid.{laid_flies}
use Rattle.c62_flight.proofs.laws.laid_blocks_fly.Goals as goal

pub returns : goal.returns
returns c = laid_flies
