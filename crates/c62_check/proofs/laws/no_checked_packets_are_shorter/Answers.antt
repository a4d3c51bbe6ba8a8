use Rattle.c62_check.proofs.Least.{no_checked_shorter}
use Rattle.c62_check.proofs.laws.no_checked_packets_are_shorter.Goals as goal

pub returns : goal.returns
returns c = no_checked_shorter
