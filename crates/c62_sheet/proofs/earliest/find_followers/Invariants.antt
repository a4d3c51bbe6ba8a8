use Rattle.c62_sheet.proofs.Common.{insns_of, take, IsDirectEarly}
use Rattle.c62_sheet.proofs.Followers.{AreWalked, IsEarlyBut}
use Rattle.c62_sheet.proofs.earliest.find_followers.Given as goal

abbrev pub invariant-loop-link : goal.invariant-loop-link
invariant-loop-link l =
    AreWalked (insns_of l.plan) (IsEarlyBut (insns_of l.plan) l.i l.spots) (IsDirectEarly (insns_of l.plan) l.spots)
    (take l.link-index l.followers) l.earliest
