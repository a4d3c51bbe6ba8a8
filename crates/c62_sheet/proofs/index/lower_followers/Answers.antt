use Rattle.c62_sheet.proofs.Common.{arith}
use Rattle.c62_sheet.proofs.Missing.{any_link}
use Rattle.c62_sheet.proofs.CountWalks.{follower_at, lowered_some}
use Rattle.c62_sheet.proofs.index.lower_followers.Goals as goal

pub bounds-missing-from : goal.bounds-missing-from
bounds-missing-from c = grind (arith, follower_at _ _ _ c.followers-followers.ensures c.loop-link.link-index any_link)

pub overflow_sub-missing : goal.overflow_sub-missing
overflow_sub-missing c =
    rw c.from.ensures
    (lowered_some _ _ _ c.loop-link.link-index any_link (omega arith)
    (λ j. rw (← c.followers-followers.ensures) at c.requires.counted j) c.loop-link.invariant)
