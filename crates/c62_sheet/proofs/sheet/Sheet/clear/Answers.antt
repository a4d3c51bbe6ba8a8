use Rattle.c62_sheet.proofs.Common.{arith, ◌≡◌, ◌∙◌, ap, length, Option, with_items_is, insns_of, Spot, nothing_placed}
use Rattle.c62_sheet.proofs.Empty.{lawful_empty}
use Rattle.c62_sheet.proofs.StandingSpots.{standing_nothing}
use Rattle.c62_sheet.proofs.sheet.Sheet.clear.Goals as goal

pub add_all-requires-clause-lawful : goal.add_all-requires-clause-lawful
add_all-requires-clause-lawful c =
    let b = c.self.inside in
    let count : length c.deref_mut-4.result.now ≡ length (insns_of b.plan) =
    ap (length {A = Option Spot}) c.deref_mut-4.ensures.value ∙ c.self.invariant.lawful.sized in
    let nothing : c.take_out_all.new.spots ≡ nothing_placed (length (insns_of b.plan)) = c.take_out_all.ensures
    ∙ ap nothing_placed count in
    let sized : length c.take_out_all.new.spots ≡ b.spots.len = omega
    (arith, c.take_out_all.auto.spots, c.deref_mut-4.ensures.len) in
    rw (c.deref.ensures.value, with_items_is b.spots c.take_out_all.new.spots sized, nothing)
    (lawful_empty (insns_of b.plan))

pub invariant_of-self : goal.invariant_of-self
invariant_of-self c =
    let b = c.self.inside in
    let count : length c.deref_mut-4.result.now ≡ length (insns_of b.plan) =
    ap (length {A = Option Spot}) c.deref_mut-4.ensures.value ∙ c.self.invariant.lawful.sized in
    let nothing : c.take_out_all.new.spots ≡ nothing_placed (length (insns_of b.plan)) = c.take_out_all.ensures
    ∙ ap nothing_placed count in
    let sized : length c.take_out_all.new.spots ≡ b.spots.len = omega
    (arith, c.take_out_all.auto.spots, c.deref_mut-4.ensures.len) in
    let counted : length c.reset.new.missing ≡ b.missing.len = omega
    (arith, c.reset.auto.missing, c.deref_mut.ensures.len) in
    record {
      known = c.self.invariant.known;
      lawful = rw (with_items_is b.spots c.take_out_all.new.spots sized, nothing) (lawful_empty (insns_of b.plan));
      index = rw (
        with_items_is b.spots c.take_out_all.new.spots sized,
        nothing,
        with_items_is b.missing
            c.reset.new.missing counted,
      ) c.reset.ensures;
      early = rw (
        with_items_is b.spots c.take_out_all.new.spots sized,
        nothing,
        with_items_is b.earliest c.reset-2.new.earliest
            (omega (arith, c.reset-2.auto.earliest, c.deref_mut-2.ensures.len)),
      ) c.reset-2.ensures;
      ready = rw c.deref.ensures.value at c.add_all.ensures;
      standing = rw (with_items_is b.spots c.take_out_all.new.spots sized, nothing)
          (standing_nothing (insns_of b.plan) b.spots.items b.standing.items c.self.invariant.standing);
      rows = rw (
        with_items_is b.spots c.take_out_all.new.spots sized,
        nothing,
        with_items_is b.rows c.free_all.new.rows (omega (arith, c.free_all.auto.rows, c.deref_mut-3.ensures.len)),
      ) c.free_all.ensures;
    }
