use Rattle.std.proofs.Common.{sym, ap, ◌∙◌}
use Rattle.std.specs.List.{list_any}
use Rattle.c62_read.specs.Program.{label_is}
use Rattle.c62_listing_reader.specs.declared.draft.OpenBlock.{OpenBlock}
use Rattle.c62_listing_reader.proofs.NameLemmas.{any_draft}
use Rattle.c62_listing_reader.proofs.draft.Blocks.is_done.Goals as goal

pub returns : goal.returns
returns c =
    c.any_labelled.ensures
    ∙ ap (list_any (λ (block : OpenBlock). label_is c.args.label.now block.label)) c.deref.ensures.value
    ∙ sym (any_draft c.args.label.now c.args.self.now.done.items)
