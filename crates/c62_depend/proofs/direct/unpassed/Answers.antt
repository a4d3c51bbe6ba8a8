use Rattle.c62_depend.proofs.Common.{ap, sym, ◌∙◌, ◌≡◌, ◌&&◌, not, and_parts, Bool, true, insns_in, nat_lt}
use Rattle.c62_depend.specs.Direct.{keep_order, is_passed}
use Rattle.c62_depend.proofs.Orders.{passed_is}
use Rattle.c62_depend.proofs.Walks.{below_none, below_more, below_all}
use Rattle.c62_depend.proofs.direct.unpassed.Goals as goal

pub loop-i-init : goal.loop-i-init
loop-i-init c = λ uses j are has.
    below_none (λ k. keep_order (insns_in uses) k j && not (is_passed (insns_in uses) k j)) j c.new-direct.result
    c.new-direct.ensures

pub loop-i-preserved : goal.loop-i-preserved
loop-i-preserved c = λ uses j are has.
    let kept : keep_order (insns_in uses) c.in-Some.i j ≡ true =
    (and_parts (nat_lt c.in-Some.i j) _ (sym (has c.in-Some.i) ∙ c.in-Some.ensures.is_in)).1 in
    let told = c.has.ensures
    ∙ passed_is uses j c.args.orders.now c.args.found c.ordered_behind-passed.result are has
    c.ordered_behind-passed.ensures c.in-Some.i in
    below_more (λ k. keep_order (insns_in uses) k j && not (is_passed (insns_in uses) k j)) c.loop-i.at c.in-Some.i j
    c.loop-i.direct
    c.with_if-direct.result (not c.has.result) (λ k. keep_order (insns_in uses) k j) c.args.found has
    (λ k low h. (and_parts _ _ h).0)
    c.in-Some.ensures (ap not told ∙ ap (λ (b : Bool). b && not (is_passed (insns_in uses) c.in-Some.i j)) (sym kept))
    (c.loop-i.invariant uses j are has) c.with_if-direct.ensures

pub returns : goal.returns
returns c = λ uses j are has.
    below_all (λ k. keep_order (insns_in uses) k j && not (is_passed (insns_in uses) k j))
    (λ k. keep_order (insns_in uses) k j)
    c.loop-i.at j c.loop-i.direct c.args.found has (λ k low h. (and_parts _ _ h).0) c.in_default.ensures
    (c.loop-i.invariant uses j are has)
