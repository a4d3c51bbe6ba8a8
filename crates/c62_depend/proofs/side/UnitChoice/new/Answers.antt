use Rattle.c62_depend.proofs.Common.{ap, get_or, Uses}
use Rattle.c62_depend.proofs.Units.{choice_from}
use Rattle.c62_depend.proofs.side.UnitChoice.new.Goals as goal

pub returns : goal.returns
returns c =
    let u = get_or c.args.uses.now c.args.i c.index-uses-i.result in
    choice_from c.args.uses.now c.args.i u c.side-side.result c.units_on.result c.requires
    (ap (λ (d : Uses). get_or c.args.uses.now c.args.i d) c.index-uses-i.is)
    c.side-side.ensures c.units_on.ensures
