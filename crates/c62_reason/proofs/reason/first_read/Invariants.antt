use Rattle.c62_reason.specs.Reason.{IsRead}
use Rattle.c62_reason.proofs.GoneOver.{AreNot}
use Rattle.c62_reason.proofs.reason.first_read.Given as goal

abbrev pub invariant-loop-write : goal.invariant-loop-write
invariant-loop-write l = AreNot (IsRead l.fn.second l.fn.cycles) l.writes l.write-index
