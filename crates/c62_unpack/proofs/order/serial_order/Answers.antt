use Rattle.std.proofs.Common.{arith, ◌≡◌, ◌<◌, ◌+◌, length, ap, sym, ◌∙◌}
use Rattle.std.proofs.lemmas.List.Edits.{length-remove}
use Rattle.c62_unpack.proofs.Orders.{none_taken, one_taken, all_taken}
use Rattle.c62_unpack.proofs.order.serial_order.Goals as goal

pub loop-taken-init : goal.loop-taken-init
loop-taken-init c =
    none_taken c.args.placed.now c.in_ok-left.left.items c.in_ok-order.order.items (length c.in_ok-uses.uses.items)
    c.in_ok-order.ensures.items c.in_ok-left.ensures.items
    c.in_ok-uses.ensures

pub next_of-next-requires-clause-count : goal.next_of-next-requires-clause-count
next_of-next-requires-clause-count c =
    ap length c.deref-in-loop-taken.ensures.value
    ∙ (c.loop-taken.invariant.each ∙ sym (ap length c.deref.ensures.value))

pub next_of-next-requires-clause-some : goal.next_of-next-requires-clause-some
next_of-next-requires-clause-some c =
    let long = c.loop-taken.invariant.long in
    let same = ap length c.deref.ensures.value in
    omega (arith, long, same, c.loop-taken-test.true)

pub loop-taken-preserved : goal.loop-taken-preserved
loop-taken-preserved c =
    let at = c.loop-taken in
    let same = ap length c.deref.ensures.value in
    let found = c.next_of-next.ensures in
    let each = at.invariant.each in
    let inside : c.next_of-next.result < length at.left.items = omega (arith, same, found) in
    let short = length-remove at.uses.items c.next_of-next.result (omega (arith, inside, each)) in
    let less = ap length c.remove.ensures.items in
    let fewer : length c.remove.new.self.items + 1 ≡ length at.uses.items = omega (arith, short, less, inside, each) in
    one_taken c.args.placed.now at.order.items at.left.items c.push.new.self.items c.remove-in-loop-taken.new.self.items
    c.remove-in-loop-taken.result
    c.next_of-next.result (length at.uses.items) (length c.remove.new.self.items) at.taken at.invariant inside
    c.remove-in-loop-taken.ensures.value
    c.in_ok-push.ensures.items c.remove-in-loop-taken.ensures.items fewer

pub returns : goal.returns
returns c =
    all_taken c.args.placed.now c.loop-taken.order.items c.loop-taken.left.items (length c.loop-taken.uses.items)
    c.loop-taken.taken c.loop-taken.invariant
    c.loop-taken-test.false
