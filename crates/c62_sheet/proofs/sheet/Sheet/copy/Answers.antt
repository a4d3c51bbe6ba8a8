use Rattle.c62_sheet.proofs.Common.{◌≡◌, ◌∙◌, insns_of}
use Rattle.c62_sheet.proofs.ReadyPicks.{same_lists}
use Rattle.c62_sheet.proofs.sheet.Sheet.copy.Goals as goal

pub invariant_of-result : goal.invariant_of-result
invariant_of-result c =
    let b = c.self.inside in
    let spots : c.in_ok-from_slice.field-0.items ≡ b.spots.items = c.in_ok-from_slice.ensures.items
    ∙ c.deref.ensures.value in
    let missing : c.in_ok-from_slice-2.field-0.items ≡ b.missing.items = c.in_ok-from_slice-2.ensures.items
    ∙ c.deref-2.ensures.value in
    let earliest : c.in_ok-from_slice-3.field-0.items ≡ b.earliest.items = c.in_ok-from_slice-3.ensures.items
    ∙ c.deref-3.ensures.value in
    let rows : c.in_ok-from_slice-4.field-0.items ≡ b.rows.items = c.in_ok-from_slice-4.ensures.items
    ∙ c.deref-4.ensures.value in
    let standing : c.in_ok-from_slice-5.field-0.items ≡ b.standing.items = c.in_ok-from_slice-5.ensures.items
    ∙ c.deref-5.ensures.value in
    record {
      known = rw c.in_ok-copy.ensures c.self.invariant.known;
      lawful = rw (c.in_ok-copy.ensures, spots) c.self.invariant.lawful;
      index = rw (c.in_ok-copy.ensures, spots, missing) c.self.invariant.index;
      early = rw (c.in_ok-copy.ensures, spots, earliest) c.self.invariant.early;
      ready = rw (c.in_ok-copy.ensures, spots)
          (same_lists (insns_of b.plan) b.spots.items b.ready c.in_ok-copy-2.field-0
          c.in_ok-copy-2.ensures.room c.in_ok-copy-2.ensures.same c.self.invariant.ready);
      standing = rw (c.in_ok-copy.ensures, spots, standing) c.self.invariant.standing;
      rows = rw (c.in_ok-copy.ensures, spots, rows) c.self.invariant.rows;
    }
