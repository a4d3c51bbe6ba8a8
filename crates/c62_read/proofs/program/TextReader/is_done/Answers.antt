use Rattle.c62_read.proofs.BlockLemmas.{any_draft}
use Rattle.c62_read.proofs.program.TextReader.is_done.Goals as goal

pub returns : goal.returns
returns c = rw (any_draft c.args.label.now c.args.self.now.done.items)
    (rw c.deref.ensures.value at c.any_labelled.ensures)
