use Rattle.c62_sheet.proofs.Common.{arith, refl, false≢true}
use Rattle.c62_sheet.proofs.Missing.{any_link}
use Rattle.c62_sheet.proofs.CountWalks.{follower_at, not_last, last_from}
use Rattle.c62_sheet.proofs.judge.is_last.Goals as goal

pub bounds-spots-from : goal.bounds-spots-from
bounds-spots-from c = grind (arith, follower_at _ _ _ c.followers-followers.ensures c.loop-link.link-index any_link)

pub returns-then-is_some : goal.returns-then-is_some
returns-then-is_some c = (
  λ e. absurd (false≢true e),
  λ last. absurd (not_last _ _ _ c.followers-followers.ensures _ c.loop-link.link-index _ any_link _
      c.loop-link-test.true c.requires.lawful.sized
      c.from.ensures c.if-is_some.ensures last),
)

pub returns : goal.returns
returns c = (
  λ _. last_from _ _ _ c.followers-followers.ensures _ c.loop-link.link-index c.requires.lawful
      c.loop-link-test.false c.loop-link.invariant,
  λ _. refl,
)
