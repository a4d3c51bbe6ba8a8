use Rattle.c62_check.proofs.Least.{no_packets_shorter}
use Rattle.c62_check.proofs.laws.no_packets_are_shorter.Goals as goal

pub returns : goal.returns
returns c = no_packets_shorter
