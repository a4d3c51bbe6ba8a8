use Rattle.c62_depend.proofs.Common.{◌≡◌, take, slice_index, insns_in, delay_at, longest}
use Rattle.c62_depend.proofs.height.height.Given as goal

abbrev pub invariant-loop-link : goal.invariant-loop-link
invariant-loop-link l = l.most ≡ longest (slice_index l.heights) (delay_at (insns_in l.uses) l.i)
    (take l.link-index l.followers)
