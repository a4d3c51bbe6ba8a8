use Rattle.c62_sheet.proofs.Common.{insns_of, take, IsDirectEarly, placed}
use Rattle.c62_sheet.proofs.Followers.{AreWalked}
use Rattle.c62_sheet.proofs.earliest.raise_followers.Given as goal

abbrev pub invariant-loop-link : goal.invariant-loop-link
invariant-loop-link l =
    AreWalked (insns_of l.plan) (IsDirectEarly (insns_of l.plan) l.spots)
    (IsDirectEarly (insns_of l.plan) (placed l.spots l.i l.spot)) (take l.link-index l.followers) l.earliest
