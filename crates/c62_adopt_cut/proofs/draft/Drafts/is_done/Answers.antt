use Rattle.std.proofs.Common.{sym, ap, ◌∙◌}
use Rattle.std.specs.List.{list_any}
use Rattle.c62_read.specs.Program.{label_is}
use Rattle.c62_adopt_cut.specs.declared.draft.Draft.{Draft as DraftRead}
use Rattle.c62_adopt_cut.proofs.DraftLemmas.{any_draft}
use Rattle.c62_adopt_cut.proofs.draft.Drafts.is_done.Goals as goal

pub returns : goal.returns
returns c =
    c.is_given.ensures ∙ ap (list_any (λ (draft : DraftRead). label_is c.args.label.now draft.label))
    c.deref.ensures.value
    ∙ sym (any_draft c.args.label.now c.args.self.now.done.items)
