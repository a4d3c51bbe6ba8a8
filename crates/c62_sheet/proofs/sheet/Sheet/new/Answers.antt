use Rattle.c62_sheet.proofs.Common.{rules, ◌≡◌, ◌∙◌, ap, sym, length, insns_of, many_insns, arith, nothing_placed}
use Rattle.c62_sheet.proofs.Empty.{lawful_empty}
use Rattle.c62_sheet.proofs.Followers.{early-nothings}
use Rattle.std.specs.Prelude.{replicate}
use Rattle.c62_sheet.proofs.sheet.Sheet.new.Goals as goal

pub add_all-requires-clause-lawful : goal.add_all-requires-clause-lawful
add_all-requires-clause-lawful c =
    let made : c.in-Ok.spots.items ≡ nothing_placed c.from.result = search rules in
    let is : c.in-Ok.spots.items ≡ nothing_placed (length (insns_of c.args.plan)) =
    made ∙ ap nothing_placed (c.from.ensures ∙ c.len.ensures.len ∙ sym (many_insns c.args.plan.insns)) in
    rw (c.deref.ensures.value, is) (lawful_empty (insns_of c.args.plan))

pub invariant_of-result : goal.invariant_of-result
invariant_of-result c =
    let made : c.in-Ok.spots.items ≡ nothing_placed c.from.result = search rules in
    let is : c.in-Ok.spots.items ≡ nothing_placed (length (insns_of c.args.plan)) =
    made ∙ ap nothing_placed (c.from.ensures ∙ c.len.ensures.len ∙ sym (many_insns c.args.plan.insns)) in
    let zeros : c.in-Ok-vec.earliest.items ≡ replicate c.from-2.result 0 = search rules in
    record {
      known = c.len.ensures.sound;
      lawful = rw is (lawful_empty (insns_of c.args.plan));
      index = rw is c.in-Ok-all_missing.ensures;
      early = rw (is, zeros)
          (early-nothings (insns_of c.args.plan) c.from-2.result
          (omega (arith, c.from-2.ensures, c.len-2.ensures.len, many_insns)));
      ready = rw c.deref.ensures.value at c.add_all.ensures;
      standing = rw is c.in-Ok-none_standing.ensures;
      rows = rw is c.in-Ok-all_rows.ensures;
    }
