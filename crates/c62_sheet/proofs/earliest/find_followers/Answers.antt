use Rattle.c62_sheet.proofs.Common.{arith, ◌≡◌, insns_of, many_insns, IsDirectEarly}
use Rattle.c62_sheet.proofs.Missing.{any_link}
use Rattle.c62_sheet.proofs.CountWalks.{follower_at}
use Rattle.c62_sheet.proofs.Followers.{IsEarlyBut, walked-none, walked-more, early-found}
use Rattle.c62_sheet.proofs.earliest.find_followers.Goals as goal

pub direct_early-cycle-requires-clause-in_plan : goal.direct_early-cycle-requires-clause-in_plan
direct_early-cycle-requires-clause-in_plan c =
    let within = follower_at _ _ _ c.followers-followers.ensures c.loop-link.link-index any_link (omega arith) in
    omega (arith, within, c.from-number.ensures, many_insns)

pub bounds-earliest-from : goal.bounds-earliest-from
bounds-earliest-from c =
    let within = follower_at _ _ _ c.followers-followers.ensures c.loop-link.link-index any_link (omega arith) in
    omega (arith, within, c.loop-link.invariant.sized, c.from.ensures, c.from-number.ensures)

pub loop-link-init : goal.loop-link-init
loop-link-init c =
    walked-none (insns_of c.args.plan.now) (IsEarlyBut (insns_of c.args.plan.now) c.args.i c.args.spots.now)
    (IsDirectEarly (insns_of c.args.plan.now) c.args.spots.now) c.args.earliest.now c.requires.others.sized
    c.requires.others.each

pub loop-link-preserved : goal.loop-link-preserved
loop-link-preserved c =
    let block = insns_of c.args.plan.now in
    let within = follower_at _ _ _ c.followers-followers.ensures c.loop-link.link-index any_link (omega arith) in
    let same : c.from-number.result ≡ c.from.result = omega (arith, c.from.ensures) in
    walked-more block (IsEarlyBut block c.args.i c.args.spots.now) (IsDirectEarly block c.args.spots.now)
    c.followers-followers.result.now c.loop-link.link-index any_link c.loop-link.earliest c.from.result (omega arith)
    (omega (arith, c.from.ensures, c.from-number.ensures))
    c.direct_early-cycle.result (omega (arith, within, c.from.ensures, c.from-number.ensures)) c.loop-link.invariant
    (λ _. rw same at c.direct_early-cycle.ensures)

pub returns : goal.returns
returns c =
    early-found (insns_of c.args.plan.now) c.args.spots.now c.args.i c.followers-followers.result.now
    c.loop-link.link-index c.loop-link.earliest
    c.followers-followers.ensures (omega arith) c.loop-link.invariant
