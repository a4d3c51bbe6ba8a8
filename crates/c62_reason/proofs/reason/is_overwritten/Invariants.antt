use Rattle.c62_reason.specs.Reason.{IsBehind}
use Rattle.c62_reason.proofs.GoneOver.{AreNot}
use Rattle.c62_reason.proofs.reason.is_overwritten.Given as goal

abbrev pub invariant-loop-write : goal.invariant-loop-write
invariant-loop-write l = AreNot (IsBehind l.fn.cycles l.fn.earlier) l.write-items l.write-index
