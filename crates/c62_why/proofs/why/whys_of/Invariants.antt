use Rattle.std.proofs.Common.{◌≡◌, length}
use Rattle.c62_depend.specs.Plan.{insns_of}
use Rattle.c62_why.proofs.Whys.{AreWhysTo}
use Rattle.c62_why.proofs.why.whys_of.Given as goal

abbrev pub invariant-loop-j : goal.invariant-loop-j
invariant-loop-j l = AreWhysTo (insns_of l.plan) l.cycles l.placed l.whys.items l.j
