use Rattle.c62_depend.proofs.Common.{arith, ap, ◌∙◌, ◌++◌, Option, ℤ, get_or, insns_in, linked}
use Rattle.c62_depend.proofs.Lists.{lists_long}
use Rattle.c62_depend.proofs.Plans.{number_small}
use Rattle.c62_depend.proofs.Linked.{inside_of, linked_first, linked_next, linked_all}
use Rattle.c62_depend.proofs.direct.link.Goals as goal

pub add-requires : goal.add-requires
add-requires c = number_small (insns_in c.args.uses.now) c.in-Some.i c.args.j c.latency_number-latency.result
    c.latency_number-latency.ensures

pub add-requires-in-Some : goal.add-requires-in-Some
add-requires-in-Some c = number_small (insns_in c.args.uses.now) c.in-Some.i c.args.j c.latency_number-latency.result
    c.latency_number-latency.ensures

pub bounds-followers-i : goal.bounds-followers-i
bounds-followers-i c =
    let inside = inside_of c.args.uses.now c.args.j c.loop-i.at c.in-Some.i c.args.direct c.requires.direct
    c.in-Some.ensures in
    omega (arith, inside, c.requires.within, lists_long _ _ c.loop-i.followers c.loop-i.invariant.followers)

pub loop-i-preserved : goal.loop-i-preserved
loop-i-preserved c =
    let block = insns_in c.args.uses.now in
    let i = c.in-Some.i in
    let j = c.args.j in
    linked_next c.args.uses.now j c.loop-i.at i c.args.direct c.loop-i.needs.items c.add.new.list.items
    c.loop-i.followers c.index-followers-i.result
    c.add-in-Some.new.list c.requires.within c.requires.direct c.in-Some.ensures c.loop-i.invariant
    (c.in_ok-add.ensures ∙ ap (λ (o : Option ℤ). c.loop-i.needs.items ++ linked i o) c.latency_number-latency.ensures)
    (c.in_ok-add-2.ensures
    ∙ ap (λ (o : Option ℤ). (get_or c.loop-i.followers i c.index-followers-i.result).items ++ linked j o)
    c.latency_number-latency.ensures)

pub returns-clause-needs : goal.returns-clause-needs
returns-clause-needs c =
    (linked_all c.args.uses.now c.args.j c.loop-i.at c.args.direct c.loop-i.needs.items c.loop-i.followers
    c.requires.direct c.in_default.ensures c.loop-i.invariant).0

pub returns-clause-followers : goal.returns-clause-followers
returns-clause-followers c =
    (linked_all c.args.uses.now c.args.j c.loop-i.at c.args.direct c.loop-i.needs.items c.loop-i.followers
    c.requires.direct c.in_default.ensures c.loop-i.invariant).1
