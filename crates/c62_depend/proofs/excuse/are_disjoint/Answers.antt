use Rattle.c62_depend.proofs.Common.{◌∙◌}
use Rattle.c62_depend.proofs.SinceLemmas.{disjoint_told}
use Rattle.c62_depend.proofs.excuse.are_disjoint.Goals as goal

pub returns : goal.returns
returns c =
    c.is_disjoint.ensures
    ∙ disjoint_told c.args.uses.now c.args.since.now c.args.i c.args.j c.index-uses-i.result c.index-uses-j.result
    (record { condition = 0; base = 0 }) c.requires.before
    c.requires.within c.index-uses-i.is c.index-uses-j.is c.requires.since
