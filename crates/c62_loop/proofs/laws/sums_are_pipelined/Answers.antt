use Rattle.c62_loop.proofs.Sums.{sum_counts, sum_stands, sum_pipelines}
use Rattle.c62_loop.proofs.laws.sums_are_pipelined.Goals as goal

pub returns : goal.returns
returns c = record { counts = sum_counts; rows = sum_stands; holds = sum_pipelines }
