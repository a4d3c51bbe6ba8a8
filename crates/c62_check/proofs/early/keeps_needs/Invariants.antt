use Rattle.c62_check.proofs.Kept.{AreKept}
use Rattle.c62_check.proofs.early.keeps_needs.Given as goal

abbrev pub invariant-loop-link : goal.invariant-loop-link
invariant-loop-link l = AreKept l.placed l.number l.needs l.link-index
