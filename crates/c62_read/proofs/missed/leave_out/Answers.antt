use Rattle.c62_read.proofs.Common.{◌≡◌, [], ◌∷◌, not, sym, ap, ◌∙◌, rules, filter, list_any, map, filter_same, Jump}
use Rattle.c62_read.proofs.Common.{is_among, asked_of}
use Rattle.c62_read.proofs.MissedLemmas.{kept_are, none_known}
use Rattle.c62_read.proofs.missed.leave_out.Goals as goal

pub returns-then-any_to : goal.returns-then-any_to
returns-then-any_to c =
    let label = c.args.label.now in
    let kept : c.retain.new.self.items ≡ filter (λ (jump : Jump). not (is_among jump.target (label ∷ [])))
    c.args.jumps.now.items =
    filter_same _ _ _ (λ x b f' k. search rules) _ _ c.retain.ensures.filtered in
    ap (map asked_of) kept ∙ kept_are (label ∷ []) c.args.jumps.now.items

pub returns-else-any_to : goal.returns-else-any_to
returns-else-any_to c =
    let label = c.args.label.now in
    none_known (label ∷ []) c.args.jumps.now.items
    (sym (c.any_to.ensures ∙ ap (list_any (λ (jump : Jump). is_among jump.target (label ∷ []))) c.deref.ensures.value)
    ∙ c.if-any_to.false)
