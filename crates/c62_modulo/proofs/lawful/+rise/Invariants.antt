use Rattle.std.proofs.Common.{length}
use Rattle.c62_modulo.proofs.lawful.+rise.Given as goal

abbrev pub decreases-rise : goal.decreases-rise
decreases-rise l = length l.insns.now
