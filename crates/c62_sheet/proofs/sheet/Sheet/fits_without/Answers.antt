use Rattle.c62_sheet.proofs.Common.{insns_of, IsAfter}
use Rattle.c62_sheet.proofs.sheet.Sheet.fits_without.Goals as goal

pub fits_without-requires-clause-after : goal.fits_without-requires-clause-after
fits_without-requires-clause-after c =
    let b = c.self.inside in
    let after : IsAfter (insns_of b.plan) b.spots.items c.args.i c.args.cycle = rw (← c.self.view_is) at
    c.requires.after in
    rw c.deref.ensures.value after
