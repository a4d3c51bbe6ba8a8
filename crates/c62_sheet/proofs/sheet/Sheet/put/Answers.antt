use Rattle.c62_sheet.proofs.Common.{arith, ◌≡◌, ◌<◌, ◌∙◌, ap, length, ℕ, with_items_is, insns_of, many_insns, IsOpen}
use Rattle.c62_sheet.proofs.Missing.{counted_enough, index-placed}
use Rattle.c62_sheet.proofs.Placing.{within_from_lawful}
use Rattle.c62_sheet.proofs.ReadySets.{ready_before, ready_placed}
use Rattle.c62_sheet.proofs.StandingSpots.{place_within, standing_placed}
use Rattle.c62_sheet.proofs.sheet.Sheet.put.Goals as goal

pub lower_followers-requires-clause-counted : goal.lower_followers-requires-clause-counted
lower_followers-requires-clause-counted c j =
    let b = c.self.inside in
    let may : IsOpen (insns_of b.plan) b.spots.items c.args.i c.args.spot = rw (← c.self.view_is) at c.requires.may in
    let in_plan : c.args.i < length b.plan.insns = rw (← c.self.view_is) at c.requires.in_plan in
    rw c.deref_mut.ensures.value (counted_enough _ _ _ _ c.self.invariant.index j c.self.invariant.lawful.sized
    (omega (arith, in_plan, many_insns)) may.free)

pub raise_followers-requires-clause-within : goal.raise_followers-requires-clause-within
raise_followers-requires-clause-within c =
    let b = c.self.inside in
    let may : IsOpen (insns_of b.plan) b.spots.items c.args.i c.args.spot = rw (← c.self.view_is) at c.requires.may in
    let in_plan : c.args.i < length b.plan.insns = rw (← c.self.view_is) at c.requires.in_plan in
    let within = within_from_lawful (insns_of b.plan) b.spots.items c.args.i c.args.spot
    (omega (arith, in_plan, many_insns, c.self.invariant.lawful.sized)) may.lawful in
    omega (arith, within, c.self.invariant.known.few)

pub take-requires-clause-within : goal.take-requires-clause-within
take-requires-clause-within c =
    let b = c.self.inside in
    let may : IsOpen (insns_of b.plan) b.spots.items c.args.i c.args.spot = rw (← c.self.view_is) at c.requires.may in
    let in_plan : c.args.i < length b.plan.insns = rw (← c.self.view_is) at c.requires.in_plan in
    within_from_lawful (insns_of b.plan) b.spots.items c.args.i c.args.spot
    (omega (arith, in_plan, many_insns, c.self.invariant.lawful.sized)) may.lawful

pub take_off-requires-clause-listed : goal.take_off-requires-clause-listed
take_off-requires-clause-listed c =
    let b = c.self.inside in
    let may : IsOpen (insns_of b.plan) b.spots.items c.args.i c.args.spot = rw (← c.self.view_is) at c.requires.may in
    let in_plan : c.args.i < length b.plan.insns = rw (← c.self.view_is) at c.requires.in_plan in
    ready_before (insns_of b.plan) b.spots.items c.args.i c.args.spot b.ready c.self.invariant.ready
    (omega (arith, in_plan, many_insns, c.self.invariant.lawful.sized))
    (omega (arith, in_plan, many_insns)) may.free may.lawful

pub add_followers-requires-clause-index : goal.add_followers-requires-clause-index
add_followers-requires-clause-index c =
    let b = c.self.inside in
    let may : IsOpen (insns_of b.plan) b.spots.items c.args.i c.args.spot = rw (← c.self.view_is) at c.requires.may in
    let in_plan : c.args.i < length b.plan.insns = rw (← c.self.view_is) at c.requires.in_plan in
    let sized : length c.lower_followers.new.missing ≡ b.missing.len = omega
    (arith, c.lower_followers.auto.missing, c.deref_mut.ensures.len) in
    let same = c.lower_followers.auto.missing ∙ ap (length {A = ℕ}) c.deref_mut.ensures.value in
    rw (
      c.deref-3.ensures.value,
      c.deref-4.ensures.value,
      with_items_is b.missing c.lower_followers.new.missing sized,
      c.from.ensures,
    )
    (index-placed _ _ _ _ c.self.invariant.index c.lower_followers.new.missing _ c.self.invariant.lawful.sized
    (omega (arith, in_plan, many_insns))
    may.free same (λ j. rw (← c.deref_mut.ensures.value) (c.lower_followers.ensures j)))

pub add_followers-requires-clause-others : goal.add_followers-requires-clause-others
add_followers-requires-clause-others c =
    let b = c.self.inside in
    let may : IsOpen (insns_of b.plan) b.spots.items c.args.i c.args.spot = rw (← c.self.view_is) at c.requires.may in
    let in_plan : c.args.i < length b.plan.insns = rw (← c.self.view_is) at c.requires.in_plan in
    rw (c.deref-3.ensures.value, c.from.ensures)
    (ready_placed (insns_of b.plan) b.spots.items c.args.i b.ready c.take_off.new.lists
    (omega (arith, in_plan, many_insns, c.self.invariant.lawful.sized)) c.take_off.ensures.urgent c.args.spot
    c.self.invariant.lawful may.free c.self.invariant.ready c.take_off.ensures.listed)

pub index_mut-requires : goal.index_mut-requires
index_mut-requires c =
    let b = c.self.inside in
    let may : IsOpen (insns_of b.plan) b.spots.items c.args.i c.args.spot = rw (← c.self.view_is) at c.requires.may in
    let in_plan : c.args.i < length b.plan.insns = rw (← c.self.view_is) at c.requires.in_plan in
    let within = within_from_lawful (insns_of b.plan) b.spots.items c.args.i c.args.spot
    (omega (arith, in_plan, many_insns, c.self.invariant.lawful.sized)) may.lawful in
    let low = place_within c.args.spot (length (insns_of b.plan)) within in
    let long : b.standing.len ≡ length b.standing.items = b.standing.ok.0 in
    omega (arith, c.place_of.ensures, low, c.self.invariant.standing.sized, long)

pub invariant_of-self : goal.invariant_of-self
invariant_of-self c =
    let b = c.self.inside in
    let may : IsOpen (insns_of b.plan) b.spots.items c.args.i c.args.spot = rw (← c.self.view_is) at c.requires.may in
    let in_plan : c.args.i < length b.plan.insns = rw (← c.self.view_is) at c.requires.in_plan in
    let sized : length c.lower_followers.new.missing ≡ b.missing.len = omega
    (arith, c.lower_followers.auto.missing, c.deref_mut.ensures.len) in
    let same = c.lower_followers.auto.missing ∙ ap (length {A = ℕ}) c.deref_mut.ensures.value in
    record {
      known = c.self.invariant.known;
      lawful = rw c.from.ensures may.lawful;
      index = rw (with_items_is b.missing c.lower_followers.new.missing sized, c.from.ensures)
          (index-placed _ _ _ _ c.self.invariant.index c.lower_followers.new.missing _ c.self.invariant.lawful.sized
          (omega (arith, in_plan, many_insns))
          may.free same (λ j. rw (← c.deref_mut.ensures.value) (c.lower_followers.ensures j)));
      early = rw (
        with_items_is b.earliest c.raise_followers.new.earliest
            (omega (arith, c.raise_followers.auto.earliest, c.deref_mut-2.ensures.len)),
        c.from.ensures,
      )
          (rw c.deref.ensures.value at c.raise_followers.ensures);
      ready = rw c.deref-3.ensures.value at c.add_followers.ensures;
      standing = rw c.from.ensures
          (standing_placed (insns_of b.plan) b.spots.items b.standing.items c.args.i
          (omega (arith, in_plan, many_insns))
          c.self.invariant.lawful.sized c.self.invariant.standing c.args.spot c.place_of.result c.place_of.ensures
          may.free may.lawful);
      rows = rw (
        with_items_is b.rows c.take.new.rows (omega (arith, c.take.auto.rows, c.deref_mut-3.ensures.len)),
        c.from.ensures,
      )
          (rw c.deref-2.ensures.value at c.take.ensures);
    }
