use Rattle.std.proofs.Common.{arith, ◌≡◌, length, ap}
use Rattle.std.proofs.lemmas.List.{with_items_is}
use Rattle.c62_refute.specs.declared.window.Window.{Window as Cycles}
use Rattle.c62_refute.proofs.search.shrunk.Goals as goal

pub returns-then-branch : goal.returns-then-branch
returns-then-branch c =
    let old = c.args.windows in
    let new = c.shrink.new.windows in
    let sized : length new ≡ old.len = omega (arith, c.shrink.auto.windows, c.deref_mut.ensures.len) in
    let lent : length c.deref_mut.result.now ≡ length old.items = ap (length {A = Cycles}) c.deref_mut.ensures.value in
    rw (with_items_is old new sized) (record {
      sized = omega (arith, c.in_ok-shrink.ensures.sized, lent, c.requires.sized);
      keeps = rw c.deref_mut.ensures.value at (c.in_ok-shrink.ensures.keeps c.if-branch.true);
    })

pub returns-else-branch : goal.returns-else-branch
returns-else-branch c = rw c.deref_mut.ensures.value at (c.in_ok-shrink.ensures.none c.if-branch.false)
