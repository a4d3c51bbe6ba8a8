use Rattle.c62_sheet.proofs.Common.{arith, rules, ◌≡◌, max, insns_of, many_insns, slice_index, placed, IsDirectEarly}
use Rattle.c62_sheet.proofs.Missing.{any_link}
use Rattle.c62_sheet.proofs.CountWalks.{follower_at, follower_is, follower_short}
use Rattle.c62_sheet.proofs.Followers.{walked-none, walked-more, early-either, early-placed}
use Rattle.c62_sheet.proofs.earliest.raise_followers.Goals as goal

pub first_after-first-requires-clause-above : goal.first_after-first-requires-clause-above
first_after-first-requires-clause-above c =
    (follower_short _ _ _ c.followers-followers.ensures c.loop-link.link-index any_link (omega arith)).least

pub first_after-first-requires-clause-below : goal.first_after-first-requires-clause-below
first_after-first-requires-clause-below c =
    (follower_short _ _ _ c.followers-followers.ensures c.loop-link.link-index any_link (omega arith)).most

pub bounds-earliest-number : goal.bounds-earliest-number
bounds-earliest-number c =
    let within = follower_at _ _ _ c.followers-followers.ensures c.loop-link.link-index any_link (omega arith) in
    omega (arith, within, c.loop-link.invariant.sized, c.from-number.ensures)

pub bounds-earliest-number-in-loop-link : goal.bounds-earliest-number-in-loop-link
bounds-earliest-number-in-loop-link c =
    let within = follower_at _ _ _ c.followers-followers.ensures c.loop-link.link-index any_link (omega arith) in
    omega (arith, within, c.loop-link.invariant.sized, c.from-number.ensures)

pub loop-link-init : goal.loop-link-init
loop-link-init c =
    walked-none (insns_of c.args.plan.now) (IsDirectEarly (insns_of c.args.plan.now) c.args.spots.now)
    (IsDirectEarly (insns_of c.args.plan.now) (placed c.args.spots.now c.args.i c.args.spot)) c.args.earliest.now
    c.requires.kept.sized c.requires.kept.each

pub loop-link-preserved : goal.loop-link-preserved
loop-link-preserved c =
    let block = insns_of c.args.plan.now in
    let most : c.max.result ≡ max (slice_index c.loop-link.earliest c.from-number.result) c.first_after-first.result =
    search rules in
    let within = follower_at _ _ _ c.followers-followers.ensures c.loop-link.link-index any_link (omega arith) in
    rw most (walked-more block (IsDirectEarly block c.args.spots.now)
    (IsDirectEarly block (placed c.args.spots.now c.args.i c.args.spot))
    c.followers-followers.result.now c.loop-link.link-index any_link c.loop-link.earliest c.from-number.result
    (omega arith) c.from-number.ensures
    (max (slice_index c.loop-link.earliest c.from-number.result) c.first_after-first.result)
    (omega (arith, within, c.from-number.ensures)) c.loop-link.invariant
    (early-either block c.args.spots.now c.args.i c.args.spot (omega (arith, many_insns, c.requires.sized))
    c.requires.free
    c.from-number.result _ c.first_after-first.result _
    (rw (← c.from-number.ensures) at
    (follower_is _ _ _ c.followers-followers.ensures c.loop-link.link-index any_link (omega arith)))
    c.first_after-first.ensures.after c.first_after-first.ensures.least))

pub returns : goal.returns
returns c =
    early-placed (insns_of c.args.plan.now) c.args.spots.now c.args.i c.args.spot
    (omega (arith, many_insns, c.requires.sized)) c.requires.free
    c.followers-followers.result.now c.loop-link.link-index c.loop-link.earliest c.followers-followers.ensures
    (omega arith) c.loop-link.invariant
