use Rattle.c62_depend.proofs.Common.{◌∙◌}
use Rattle.c62_depend.proofs.SinceLemmas.{order_told}
use Rattle.c62_depend.proofs.latency.are_in_order.Goals as goal

pub returns : goal.returns
returns c =
    c.is_unless.ensures
    ∙ order_told c.args.uses.now c.args.i c.args.j c.index-uses-i.result c.index-uses-j.result c.may_meet.result
    c.are_disjoint-disjoint.result
    c.requires.before c.requires.within c.index-uses-i.is c.index-uses-j.is c.may_meet.ensures
    c.are_disjoint-disjoint.ensures
