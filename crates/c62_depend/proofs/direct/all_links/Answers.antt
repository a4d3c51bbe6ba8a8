use Rattle.c62_depend.proofs.Common.{and_parts, ltb-true, nat_lt, ◌<◌, ◌≡◌, ◌+◌, ◌∙◌, ◌||◌, ◌&&◌, ◌==◌, Bool, ap, ℕ}
use Rattle.c62_depend.proofs.Common.{arith, subst, sym, List, Link, insns_in, length}
use Rattle.smallvec.specs.SmallVec.{SmallVec}
use Rattle.c62_depend.specs.NumberSet.{number_in}
use Rattle.c62_depend.specs.Direct.{direct_needs}
use Rattle.c62_depend.specs.declared.number_set.NumberSet.{NumberSet}
use Rattle.c62_depend.specs.Walk.{AreLinkedBefore, AreOrders}
use Rattle.c62_depend.proofs.Lists.{lists_none, lists_more, lists_long}
use Rattle.c62_depend.proofs.Walks.{accesses_none, accesses_more, direct_all}
use Rattle.c62_depend.proofs.Orders.{orders_none, orders_more}
use Rattle.c62_depend.proofs.Linked.{linked_in, written_back}
use Rattle.c62_depend.proofs.direct.all_links.Goals as goal

pub loop-j-init : goal.loop-j-init
loop-j-init c = record {
  users = c.new-users.ensures c.args.uses.now;
  accesses = accesses_none c.args.uses.now c.new-accesses.result c.new-accesses.ensures;
  orders = orders_none c.args.uses.now c.in_ok-orders.orders.items c.in_ok-orders.ensures.items;
  needs = lists_none (direct_needs (insns_in c.args.uses.now)) c.in_ok-needs.needs.items c.in_ok-needs.ensures.items;
  followers = c.in_ok-followers.ensures (insns_in c.args.uses.now);
}

pub unpassed-requires : goal.unpassed-requires
unpassed-requires c = λ k it.
    let parts = and_parts (nat_lt k c.loop-j.j) _ (sym (c.ordered_with-found.ensures k) ∙ it) in
    let before : k < c.loop-j.j = ltb-true k c.loop-j.j parts.0 in
    omega (arith, before, c.loop-j.invariant.orders.long)

pub link-requires-clause-direct : goal.link-requires-clause-direct
link-requires-clause-direct c =
    direct_all c.args.uses.now c.loop-j.j c.behind.result c.unpassed.result c.by_branch.result c.joined.result
    c.joined-direct.result c.behind.ensures
    (c.unpassed.ensures c.args.uses.now c.loop-j.j
    (subst (λ (sets : List NumberSet). AreOrders c.args.uses.now c.loop-j.j sets) (sym c.deref.ensures.value)
    c.loop-j.invariant.orders) c.ordered_with-found.ensures) c.by_branch.ensures c.joined.ensures
    c.joined-direct.ensures

pub loop-j-preserved : goal.loop-j-preserved
loop-j-preserved c =
    let uses = c.args.uses.now in
    let long = lists_long _ _ c.link.new.followers c.in_ok-link.ensures.followers in
    let before = lists_long _ _ c.loop-j.followers.items c.loop-j.invariant.followers in
    let same = written_back c.link.new.followers _ c.loop-j.followers.len
    (omega (arith, long, before, c.loop-j.followers.ok.0)) in
    record {
      users = c.add.ensures;
      accesses = accesses_more uses c.loop-j.j c.index-uses-j.result c.loop-j.accesses c.with_if-accesses.result
          (omega (arith, c.loop-j-test.true))
          c.index-uses-j.is c.loop-j.invariant.accesses
          (λ m. c.with_if-accesses.ensures m
          ∙ ap (λ (b : Bool). number_in c.loop-j.accesses m || (b && (m == c.loop-j.j))) c.reaches_memory.ensures);
      orders = orders_more uses c.loop-j.j c.loop-j.orders.items _ c.ordered_with-found.result
          c.in_ok-push-2.ensures.items c.loop-j.invariant.orders c.ordered_with-found.ensures;
      needs = lists_more (direct_needs (insns_in uses)) c.loop-j.j c.loop-j.needs.items _ c.in_ok-link.field-0
          c.loop-j.invariant.needs
          c.in_ok-link.ensures.needs c.in_ok-push.ensures.items;
      followers = subst (λ (lists : List (SmallVec Link)). AreLinkedBefore uses (c.loop-j.j + 1) lists) (sym same)
          c.in_ok-link.ensures.followers;
    }

pub returns-clause-followers : goal.returns-clause-followers
returns-clause-followers c =
    let last : c.loop-j.j ≡ length c.args.uses.now = omega (arith, c.loop-j-test.false, c.loop-j.auto.j-end) in
    linked_in c.args.uses.now c.loop-j.followers.items
    (subst (λ (n : ℕ). AreLinkedBefore c.args.uses.now n c.loop-j.followers.items) last c.loop-j.invariant.followers)
