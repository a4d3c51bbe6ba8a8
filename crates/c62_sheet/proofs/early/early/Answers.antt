use Rattle.c62_sheet.proofs.Common.{arith, rules, ◌≡◌, max, insns_of}
use Rattle.c62_sheet.proofs.EarlyCycles.{early_from-more, early_from-all}
use Rattle.c62_sheet.proofs.early.early.Goals as goal

pub loop-h-preserved : goal.loop-h-preserved
loop-h-preserved c =
    let most : c.max-first.result ≡ max c.loop-h.first c.bound_from.result = search rules in
    rw most (early_from-more (insns_of c.args.plan.now) c.args.spots.now c.args.i c.loop-h.h c.loop-h.first
    c.bound_from.result c.loop-h.invariant c.bound_from.ensures)

pub returns : goal.returns
returns c = early_from-all (insns_of c.args.plan.now) c.args.spots.now c.args.i c.loop-h.h c.loop-h.first (omega arith)
    c.loop-h.invariant
