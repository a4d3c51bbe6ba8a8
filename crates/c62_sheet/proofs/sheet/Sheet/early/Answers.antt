use Rattle.c62_sheet.proofs.Common.{arith, ◌≡◌, ◌<◌, ◌≤◌, length, get_or_default, insns_of, many_insns, slice_index}
use Rattle.c62_sheet.proofs.Founding.{early_is}
use Rattle.c62_sheet.proofs.Missing.{placed_at}
use Rattle.c62_sheet.proofs.sheet.Sheet.early.Goals as goal

pub returns-then-index-eq0 : goal.returns-then-index-eq0
returns-then-index-eq0 c =
    let b = c.self.inside in
    let block = insns_of b.plan in
    let in_plan : c.args.i < length b.plan.insns = rw (← c.self.view_is) at c.requires in
    let low : c.args.i < length block = omega (arith, in_plan, many_insns) in
    let counted = get_or_default b.missing.items c.from-number.result c.index.result.now 0
    (omega (arith, low, c.from-number.ensures, c.self.invariant.index.sized)) in
    let none : slice_index b.missing.items c.from-number.result ≤ 0 = grind
    (arith, counted, c.index.ensures, c.if-index-eq0.true) in
    let there = get_or_default b.earliest.items c.args.i c.index-then-index-eq0.result.now 0
    (omega (arith, low, c.self.invariant.early.sized)) in
    let is : c.index-then-index-eq0.result.now ≡ slice_index b.earliest.items c.args.i =
    grind (arith, there, c.index-then-index-eq0.ensures, c.from-number.ensures) in
    rw (← c.self.view_is, is) (early_is block b.spots.items c.self.invariant.lawful c.args.i
    (placed_at block b.spots.items b.missing.items c.args.i c.from-number.result c.self.invariant.index low
    c.from-number.ensures none)
    (slice_index b.earliest.items c.args.i) (c.self.invariant.early.each c.args.i low))
