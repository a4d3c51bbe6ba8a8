use Rattle.c62_sheet.proofs.Common.{rules, ◌≡◌, insns_of, slice_get}
use Rattle.c62_sheet.proofs.ReadyPicks.{pick_first}
use Rattle.c62_sheet.proofs.sheet.Sheet.pick.Goals as goal

pub returns : goal.returns
returns c =
    let b = c.self.inside in
    let is : c.copied.result ≡ slice_get c.of.result.now 0 = search rules in
    rw (← c.self.view_is, is)
    (pick_first (insns_of b.plan) b.spots.items b.ready c.args.side c.of.result.now c.of.ensures
    c.self.invariant.ready)
