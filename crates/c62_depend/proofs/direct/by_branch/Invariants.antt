use Rattle.c62_depend.proofs.Common.{insns_in, not, ◌&&◌, slice_get}
use Rattle.c62_depend.specs.Direct.{is_branch_in, land_behind, direct_before}
use Rattle.c62_depend.proofs.Walks.{HasThoseBelow}
use Rattle.c62_depend.proofs.direct.by_branch.Given as goal

abbrev pub invariant-loop-i : goal.invariant-loop-i
invariant-loop-i l =
    HasThoseBelow (λ k. is_branch_in (slice_get (insns_in l.uses) l.j) && not
    (land_behind (insns_in l.uses) k (direct_before (insns_in l.uses) k l.j))) l.i l.j
    l.direct
