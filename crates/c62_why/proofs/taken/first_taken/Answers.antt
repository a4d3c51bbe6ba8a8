use Rattle.std.proofs.Common.{rules, arith, ◌≡◌, ◌≤◌, List, length, take, sym, subst, refl, ap, ◌∙◌}
use Rattle.std.specs.Prelude.{All, slice_get, Some}
use Rattle.c62_rules.specs.declared.resource.Resource.{Resource}
use Rattle.c62_rules.specs.Resource.{taken_by}
use Rattle.c62_why.specs.Taken.{IsEnoughFor}
use Rattle.c62_why.proofs.Holding.{AreFirst, read_at, first_next, first_taken, all_taken}
use Rattle.c62_why.proofs.taken.first_taken.Goals as goal

pub returns-in-Some : goal.returns-in-Some
returns-in-Some c =
    let one = c.args.one.now in
    let items = c.as_slice-resource-items.result.now in
    let same : items ≡ taken_by one.insn one.unit = c.as_slice-resource-items.ensures.value
    ∙ c.taken_by-takes.ensures in
    let end = c.loop-resource-test.true in
    record {
      place = c.loop-resource.resource-index;
      resource = c.resource-item.result;
      takes = subst (λ (xs : List Resource). slice_get xs c.loop-resource.resource-index ≡ Some c.resource-item.result)
          same
          (read_at items c.loop-resource.resource-index c.loop-resource.resource-index c.resource-item.result refl end
          c.resource-item.is);
      lacks = c.in-Some.ensures;
      enough = subst (λ (xs : List Resource). All (IsEnoughFor c.args.placed.now one)
          (take c.loop-resource.resource-index xs)) same
          (first_taken (IsEnoughFor c.args.placed.now one) items c.loop-resource.resource-index (omega (arith, end))
          c.loop-resource.invariant);
    }

pub loop-resource-preserved : goal.loop-resource-preserved
loop-resource-preserved c =
    first_next (IsEnoughFor c.args.placed.now c.args.one.now) c.as_slice-resource-items.result.now
    c.loop-resource.resource-index c.resource-item.result
    c.loop-resource-test.true c.resource-item.is c.loop-resource.invariant c.in_default.ensures

pub returns : goal.returns
returns c =
    let one = c.args.one.now in
    let items = c.as_slice-resource-items.result.now in
    let same : items ≡ taken_by one.insn one.unit = c.as_slice-resource-items.ensures.value
    ∙ c.taken_by-takes.ensures in
    subst (λ (xs : List Resource). All (IsEnoughFor c.args.placed.now one) xs) same
    (all_taken (IsEnoughFor c.args.placed.now one) items c.loop-resource.resource-index
    (omega (arith, c.loop-resource-test.false)) c.loop-resource.invariant)
