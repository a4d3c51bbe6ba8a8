use Rattle.c62_depend.proofs.Common.{insns_in}
use Rattle.c62_depend.proofs.Linked.{AreShort}
use Rattle.c62_depend.proofs.direct.land_behind.Given as goal

abbrev pub invariant-loop-link : goal.invariant-loop-link
invariant-loop-link l = AreShort (insns_in l.uses) l.i l.followers l.link-index
