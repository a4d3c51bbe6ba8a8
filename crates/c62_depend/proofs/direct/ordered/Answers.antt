use Rattle.c62_depend.proofs.Common.{insns_in, slice_get}
use Rattle.c62_depend.specs.Direct.{keep_order}
use Rattle.c62_depend.specs.Walk.{accesses}
use Rattle.c62_depend.proofs.Walks.{below_more, below_all, order_of_accesses}
use Rattle.c62_depend.proofs.direct.ordered.Goals as goal

pub loop-i-preserved : goal.loop-i-preserved
loop-i-preserved c =
    below_more (λ k. keep_order (insns_in c.args.uses.now) k c.args.j) c.loop-i.at c.in-Some.i c.args.j c.loop-i.found
    c.with_if-found.result
    c.are_in_order.result (λ k. accesses (slice_get (insns_in c.args.uses.now) k)) c.args.accesses c.requires.accesses
    (λ k low. order_of_accesses c.args.uses.now c.args.j k) c.in-Some.ensures c.are_in_order.ensures c.loop-i.invariant
    c.with_if-found.ensures

pub returns : goal.returns
returns c =
    below_all (λ k. keep_order (insns_in c.args.uses.now) k c.args.j)
    (λ k. accesses (slice_get (insns_in c.args.uses.now) k)) c.loop-i.at c.args.j
    c.loop-i.found c.args.accesses c.requires.accesses (λ k low. order_of_accesses c.args.uses.now c.args.j k)
    c.in_default.ensures c.loop-i.invariant
