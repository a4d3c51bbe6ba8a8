use Rattle.std.proofs.lemmas.List.{get_or_default}
use Rattle.c62_depend.specs.Open.{no_numbers}
use Rattle.c62_depend.proofs.Orders.{joined_none, joined_more, joined_all}
use Rattle.c62_depend.proofs.direct.ordered_behind.Goals as goal

pub loop-k-init : goal.loop-k-init
loop-k-init c = joined_none c.args.orders.now c.args.found c.new-joined.result c.new-joined.ensures

pub loop-k-preserved : goal.loop-k-preserved
loop-k-preserved c =
    joined_more c.args.orders.now c.args.found c.loop-k.at c.in-Some.k c.loop-k.joined c.joined-joined.result _
    (get_or_default c.args.orders.now c.in-Some.k _ no_numbers (c.requires c.in-Some.k c.in-Some.ensures.is_in))
    c.in-Some.ensures c.joined-joined.ensures c.loop-k.invariant

pub returns : goal.returns
returns c = joined_all c.args.orders.now c.args.found c.loop-k.at c.loop-k.joined c.in_default.ensures
    c.loop-k.invariant
