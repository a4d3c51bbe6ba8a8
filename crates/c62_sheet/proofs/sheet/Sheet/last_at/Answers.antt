use Rattle.c62_sheet.proofs.Common.{arith, ◌<◌, ◌*◌, ◌∙◌, ap, length, get_or_default, insns_of, many_insns, slice_index}
use Rattle.c62_sheet.proofs.Common.{IsAt}
use Rattle.c62_sheet.proofs.StandingSpots.{place_within}
use Rattle.c62_sheet.proofs.sheet.Sheet.last_at.Goals as goal

pub returns-clause-in_plan : goal.returns-clause-in_plan
returns-clause-in_plan c =
    let b = c.self.inside in
    let early : c.args.spot.cycle < 5 * length b.plan.insns = rw (← c.self.view_is) at c.requires in
    let low : c.place_of-place.result < length b.standing.items =
    omega (
      arith,
      c.place_of-place.ensures,
      place_within c.args.spot (length (insns_of b.plan))
          (omega (arith, early, many_insns)),
      c.self.invariant.standing.sized,
    ) in
    let there = get_or_default b.standing.items c.place_of-place.result c.index.result.now 0 low in
    let within = c.self.invariant.standing.within c.place_of-place.result low in
    rw (← c.self.view_is) (omega (arith, c.index.ensures, there, within, many_insns))

pub returns-clause-stands : goal.returns-clause-stands
returns-clause-stands c q at =
    let b = c.self.inside in
    let early : c.args.spot.cycle < 5 * length b.plan.insns = rw (← c.self.view_is) at c.requires in
    let here : IsAt b.spots.items q c.args.spot = rw (← c.self.view_is) at at in
    let low : c.place_of-place.result < length b.standing.items =
    omega (
      arith,
      c.place_of-place.ensures,
      place_within c.args.spot (length (insns_of b.plan))
          (omega (arith, early, many_insns)),
      c.self.invariant.standing.sized,
    ) in
    let there = get_or_default b.standing.items c.place_of-place.result c.index.result.now 0 low in
    c.index.ensures ∙ there ∙ ap (slice_index b.standing.items) c.place_of-place.ensures
    ∙ c.self.invariant.standing.each q c.args.spot here
