use Rattle.c62_sheet.proofs.Common.{arith, rules, ◌≡◌, max}
use Rattle.c62_sheet.proofs.Missing.{any_link}
use Rattle.c62_sheet.proofs.EarlyCycles.{early-more, early_of, need_short}
use Rattle.c62_sheet.proofs.early.direct_early.Goals as goal

pub bound_by-requires-clause-within : goal.bound_by-requires-clause-within
bound_by-requires-clause-within c =
    let short = need_short _ _ _ c.needs-needs.ensures c.loop-link.link-index any_link (omega arith) in
    omega (arith, short.before, short.within, c.requires.lawful.sized)

pub bound_by-requires-clause-above : goal.bound_by-requires-clause-above
bound_by-requires-clause-above c =
    (need_short _ _ _ c.needs-needs.ensures c.loop-link.link-index any_link (omega arith)).least

pub bound_by-requires-clause-below : goal.bound_by-requires-clause-below
bound_by-requires-clause-below c =
    (need_short _ _ _ c.needs-needs.ensures c.loop-link.link-index any_link (omega arith)).most

pub loop-link-preserved : goal.loop-link-preserved
loop-link-preserved c =
    let most : c.max-cycle.result ≡ max c.loop-link.cycle c.bound_by.result = search rules in
    rw most (early-more any_link (omega arith) c.loop-link.invariant c.bound_by.ensures)

pub returns : goal.returns
returns c = early_of _ _ _ c.needs-needs.ensures _ _ _ (omega arith) (omega arith) c.loop-link.invariant
