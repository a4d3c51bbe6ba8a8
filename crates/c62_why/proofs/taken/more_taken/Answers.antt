use Rattle.std.proofs.Common.{◌∙◌, ◌+◌, ◌∷◌, List, ap, drop, sym}
use Rattle.std.specs.Prelude.{fold}
use Rattle.std.proofs.lemmas.List.{at_drop_more}
use Rattle.c62_rules.specs.declared.resource.Resource.{Resource}
use Rattle.c62_why.specs.declared.taken.Taken.{Taken}
use Rattle.c62_why.specs.Taken.{with_taken}
use Rattle.c62_why.proofs.taken.more_taken.Goals as goal

pub loop-resource-preserved : goal.loop-resource-preserved
loop-resource-preserved c =
    let f : List Taken → Resource → List Taken = with_taken c.args.placed.now c.args.one.now c.args.first in
    let at = c.loop-resource in
    let items = c.as_slice-resource-items.result.now in
    ap (λ (more : List Taken). fold f more (drop (at.resource-index + 1) items)) c.in_ok-push_taken.ensures
    ∙ (ap (λ (r : Resource). fold f at.more.items (r ∷ drop (at.resource-index + 1) items)) c.resource-item.is
    ∙ (sym (at_drop_more (fold f at.more.items) items at.resource-index c.resource-item.result c.loop-resource-test.true)
    ∙ at.invariant))
