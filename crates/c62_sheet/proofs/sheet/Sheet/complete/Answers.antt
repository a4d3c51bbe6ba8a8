use Rattle.c62_sheet.proofs.Common.{◌↔◌, insns_of, IsComplete}
use Rattle.c62_sheet.specs.Ready.{ListNone}
use Rattle.c62_sheet.proofs.ReadyPicks.{none_is_complete}
use Rattle.c62_sheet.proofs.sheet.Sheet.complete.Goals as goal

pub returns : goal.returns
returns c =
    let b = c.self.inside in
    let both : ListNone b.ready ↔ IsComplete (insns_of b.plan) b.spots.items = none_is_complete (insns_of b.plan)
    b.spots.items b.ready c.self.invariant.ready in
    rw (← c.self.view_is) (λ is. both.0 (c.is_empty.ensures.0 is), λ complete. c.is_empty.ensures.1 (both.1 complete))
