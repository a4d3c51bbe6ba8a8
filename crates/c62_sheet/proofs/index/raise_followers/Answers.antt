use Rattle.c62_sheet.proofs.Common.{arith}
use Rattle.c62_sheet.proofs.Missing.{any_link}
use Rattle.c62_sheet.proofs.CountWalks.{raised_more, follower_at, raised_room}
use Rattle.c62_sheet.proofs.index.raise_followers.Goals as goal

pub bounds-missing-from : goal.bounds-missing-from
bounds-missing-from c = grind (arith, follower_at _ _ _ c.followers-followers.ensures c.loop-link.link-index any_link)

pub bounds-missing-from-in-loop-link : goal.bounds-missing-from-in-loop-link
bounds-missing-from-in-loop-link c = grind
    (arith, follower_at _ _ _ c.followers-followers.ensures c.loop-link.link-index any_link)

pub overflow_add-missing : goal.overflow_add-missing
overflow_add-missing c =
    let room = raised_room _ _ _ c.loop-link.link-index any_link (omega arith)
    (λ j. rw (← c.followers-followers.ensures) at c.requires.room j)
    c.loop-link.invariant in
    grind (arith, room)

pub loop-link-preserved : goal.loop-link-preserved
loop-link-preserved c =
    let within = follower_at _ _ _ c.followers-followers.ensures c.loop-link.link-index any_link in
    raised_more _ _ _ c.loop-link.link-index any_link (omega arith) c.from.result c.from.ensures (grind (arith, within))
    c.loop-link.invariant
