use Rattle.c62_depend.proofs.Linked.{AreWalked}
use Rattle.c62_depend.proofs.direct.all_links.Given as goal

abbrev pub invariant-loop-j : goal.invariant-loop-j
invariant-loop-j l = AreWalked l.uses l.j l.users l.accesses l.orders.items l.needs.items l.followers.items
