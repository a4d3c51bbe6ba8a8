use Rattle.std.proofs.Common.{length}
use Rattle.c62_exec.proofs.issuable.+rise.Given as goal

abbrev pub decreases-rise : goal.decreases-rise
decreases-rise l = length l.insns.now
