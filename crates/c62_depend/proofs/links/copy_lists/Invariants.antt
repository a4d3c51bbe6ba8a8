use Rattle.c62_depend.proofs.Common.{◌≡◌, take, links_of}
use Rattle.c62_depend.proofs.links.copy_lists.Given as goal

abbrev pub invariant-loop-list : goal.invariant-loop-list
invariant-loop-list l = links_of l.copies.items ≡ links_of (take l.list-index l.lists)
