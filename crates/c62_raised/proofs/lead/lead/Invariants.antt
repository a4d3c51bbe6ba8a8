use Rattle.std.proofs.Common.{◌≡◌, drop}
use Rattle.std.specs.Prelude.{fold}
use Rattle.c62_depend.specs.Latency.{greater, greatest_by}
use Rattle.c62_raised.specs.Steps.{through}
use Rattle.c62_raised.proofs.lead.lead.Given as goal

abbrev pub invariant-loop-link : goal.invariant-loop-link
invariant-loop-link l = fold (λ most link. greater most (through l.leads l.i link)) l.most
    (drop l.link-index l.link-items) ≡ greatest_by (through l.leads l.i) l.link-items
