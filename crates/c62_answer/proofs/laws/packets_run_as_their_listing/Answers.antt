use Rattle.c62_answer.proofs.AdoptedRun.{runs_as_its_listing}
use Rattle.c62_answer.proofs.laws.packets_run_as_their_listing.Goals as goal

pub returns : goal.returns
returns c = runs_as_its_listing
