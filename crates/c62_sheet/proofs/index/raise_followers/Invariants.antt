use Rattle.c62_sheet.proofs.Common.{◌≡◌, ◌+◌, ℕ, take, slice_index, times}
use Rattle.c62_sheet.proofs.index.raise_followers.Given as goal

abbrev pub invariant-loop-link : goal.invariant-loop-link
invariant-loop-link l = (j : ℕ)
    → slice_index l.fn.missing j + times j (take l.link-index l.followers) ≡ slice_index l.missing j
