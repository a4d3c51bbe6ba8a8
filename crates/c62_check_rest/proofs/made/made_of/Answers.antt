use Rattle.std.proofs.Common.{rules, subst}
use Rattle.c62_packet.specs.Packed.{IsInListingOrder}
use Rattle.c62_check_rest.specs.Rows.{MayBeBlock}
use Rattle.c62_check_rest.proofs.made.made_of.Goals as goal

pub new-requires-clause-in_order : goal.new-requires-clause-in_order
new-requires-clause-in_order c =
    let may : MayBeBlock c.length_of-cycles.result c.deref-2.result.now = search rules in
    subst IsInListingOrder c.deref-2.ensures.value may.in_order
