use Rattle.c62_depend.proofs.Latencies.{latency-is}
use Rattle.c62_depend.proofs.laws.has_latencies.Goals as goal

pub returns : goal.returns
returns c = latency-is
