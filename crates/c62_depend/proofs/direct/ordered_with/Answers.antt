use Rattle.c62_depend.proofs.Common.{sym, ◌∙◌}
use Rattle.c62_depend.proofs.Walks.{unordered}
use Rattle.c62_depend.proofs.direct.ordered_with.Goals as goal

pub returns-else-reaches : goal.returns-else-reaches
returns-else-reaches c =
    unordered c.args.uses.now c.args.j c.index-uses-j.result c.new.result c.requires.within c.index-uses-j.is
    (sym c.reaches_memory-reaches.ensures ∙ c.if-reaches.false) c.new.ensures
