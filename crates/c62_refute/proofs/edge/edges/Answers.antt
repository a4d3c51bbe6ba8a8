use Rattle.std.proofs.Common.{sym, subst, List, All, pos}
use Rattle.std.proofs.lemmas.List.Elements.{All-push}
use Rattle.c62_depend.specs.Plan.{insns_of}
use Rattle.c62_depend.specs.declared.links.Link.{Link}
use Rattle.c62_bound.proofs.Tight.{link_at}
use Rattle.c62_refute.specs.declared.edge.Edge.{Edge as Distance}
use Rattle.c62_refute.specs.Edge.{IsEdge}
use Rattle.c62_refute.proofs.edge.edges.Goals as goal

abbrev any_link : Link
any_link = record { number = 0; latency = pos 0 }

pub loop-link-preserved : goal.loop-link-preserved
loop-link-preserved c =
    let block = insns_of c.args.plan.now in
    let links = c.followers-link-items.result.now in
    let at = link_at block c.loop-from.from links c.loop-link.link-index any_link c.followers-link-items.ensures
    c.loop-link-test.true in
    subst (λ (edges : List Distance). All (IsEdge block) edges) (sym c.in_ok-push.ensures.items)
    (All-push (IsEdge block) c.loop-link.edges.items _ c.loop-link.invariant at.is)
