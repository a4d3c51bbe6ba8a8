use Rattle.c62_reason.specs.Reason.{IsSpared}
use Rattle.c62_reason.proofs.GoneOver.{AreNot}
use Rattle.c62_reason.proofs.reason.first_spared.Given as goal

abbrev pub invariant-loop-write : goal.invariant-loop-write
invariant-loop-write l = AreNot (IsSpared l.fn.first l.fn.cycles) l.writes l.write-index
