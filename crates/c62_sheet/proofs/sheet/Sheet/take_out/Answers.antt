use Rattle.c62_sheet.proofs.Common.{arith, ◌≡◌, ◌<◌, ◌∙◌, ap, length, ℕ, IsSome, with_items_is, insns_of, many_insns}
use Rattle.c62_sheet.proofs.Common.{spot_at, IsLast}
use Rattle.c62_sheet.proofs.Placing.{lawful_withdrawn}
use Rattle.c62_sheet.proofs.Missing.{counted_room, index-withdrawn}
use Rattle.c62_sheet.proofs.Followers.{early-without}
use Rattle.c62_sheet.proofs.ReadySets.{taken_not_listed, ready_withdrawn}
use Rattle.c62_sheet.proofs.StandingSpots.{standing_withdrawn}
use Rattle.c62_sheet.proofs.sheet.Sheet.take_out.Goals as goal

pub raise_followers-requires-clause-room : goal.raise_followers-requires-clause-room
raise_followers-requires-clause-room c j = rw c.deref_mut.ensures.value
    (counted_room _ _ _ _ c.self.invariant.index j c.self.invariant.known.few)

pub find_followers-requires-clause-lawful : goal.find_followers-requires-clause-lawful
find_followers-requires-clause-lawful c =
    let b = c.self.inside in
    let last : IsLast (insns_of b.plan) b.spots.items c.args.i = rw (← c.self.view_is) at c.requires.last in
    let in_plan : c.args.i < length b.plan.insns = rw (← c.self.view_is) at c.requires.in_plan in
    rw (c.deref-4.ensures.value, c.from.ensures)
    (lawful_withdrawn _ _ _ c.self.invariant.lawful (omega (arith, in_plan, many_insns)) last)

pub find_followers-requires-clause-others : goal.find_followers-requires-clause-others
find_followers-requires-clause-others c =
    let b = c.self.inside in
    rw (c.deref-4.ensures.value, c.deref_mut-3.ensures.value, c.from.ensures)
    (early-without (insns_of b.plan) b.spots.items c.args.i b.earliest.items c.self.invariant.early)

pub add-requires-clause-absent : goal.add-requires-clause-absent
add-requires-clause-absent c =
    let b = c.self.inside in
    let taken : IsSome (spot_at b.spots.items c.args.i) = rw (← c.self.view_is) at c.requires.taken in
    let in_plan : c.args.i < length b.plan.insns = rw (← c.self.view_is) at c.requires.in_plan in
    taken_not_listed (insns_of b.plan) b.spots.items c.args.i c.drop_followers.new.lists
    (rw c.deref.ensures.value at c.drop_followers.ensures)
    (omega (arith, in_plan, many_insns)) taken

pub invariant_of-self : goal.invariant_of-self
invariant_of-self c =
    let b = c.self.inside in
    let last : IsLast (insns_of b.plan) b.spots.items c.args.i = rw (← c.self.view_is) at c.requires.last in
    let taken : IsSome (spot_at b.spots.items c.args.i) = rw (← c.self.view_is) at c.requires.taken in
    let in_plan : c.args.i < length b.plan.insns = rw (← c.self.view_is) at c.requires.in_plan in
    let sized : length c.raise_followers.new.missing ≡ b.missing.len = omega
    (arith, c.raise_followers.auto.missing, c.deref_mut.ensures.len) in
    let same = c.raise_followers.auto.missing ∙ ap (length {A = ℕ}) c.deref_mut.ensures.value in
    record {
      known = c.self.invariant.known;
      lawful = rw c.from.ensures
          (lawful_withdrawn _ _ _ c.self.invariant.lawful (omega (arith, in_plan, many_insns)) last);
      index = rw (with_items_is b.missing c.raise_followers.new.missing sized, c.from.ensures)
          (index-withdrawn _ _ _ _ c.self.invariant.index c.raise_followers.new.missing c.self.invariant.lawful.sized
          (omega (arith, in_plan, many_insns))
          taken same (λ j. rw (← c.deref_mut.ensures.value) (c.raise_followers.ensures j)));
      early = rw (with_items_is b.earliest c.find_followers.new.earliest
          (omega (arith, c.find_followers.auto.earliest, c.deref_mut-3.ensures.len)))
          (rw c.deref-4.ensures.value at c.find_followers.ensures);
      ready = rw c.from.ensures
          (ready_withdrawn (insns_of b.plan) b.spots.items c.args.i c.drop_followers.new.lists c.add.new.lists
          (omega (arith, in_plan, many_insns, c.self.invariant.lawful.sized)) c.add.ensures.urgent taken
          c.self.invariant.lawful last
          (rw c.deref.ensures.value at c.drop_followers.ensures) c.add.ensures.listed);
      standing = rw c.from.ensures
          (standing_withdrawn (insns_of b.plan) b.spots.items b.standing.items c.args.i
          (omega (arith, in_plan, many_insns))
          c.self.invariant.lawful.sized c.self.invariant.standing);
      rows = rw (
        with_items_is b.rows c.free.new.rows (omega (arith, c.free.auto.rows, c.deref_mut-2.ensures.len)),
        c.from.ensures,
      )
          (rw c.deref-3.ensures.value at c.free.ensures);
    }
