use Rattle.std.proofs.Common.{arith, ◌-◌, Some, None, refl}
use Rattle.c62_why.proofs.Holding.{over_by, found_by}
use Rattle.c62_why.proofs.Uses.{somebody}
use Rattle.c62_why.proofs.taken.taken_of.Goals as goal

pub unreachable-requires : goal.unreachable-requires
unreachable-requires c =
    let one = c.args.one.now in
    somebody c.args.resource (one.cycle - 1) c.args.placed.now one.insn one.unit
    (over_by c.args.placed.now one c.args.resource c.is_lacking.result c.is_lacking.ensures c.if-not-is_lacking.false)
    (found_by c.args.resource c.args.placed.now c.holder.result None c.saturating_sub.result (one.cycle - 1)
    c.holder.ensures c.saturating_sub.ensures c.in-None.is)

pub returns : goal.returns
returns c =
    let one = c.args.one.now in
    record {
      resource = refl;
      over = over_by c.args.placed.now one c.args.resource c.is_lacking.result c.is_lacking.ensures
          c.if-not-is_lacking.false;
      holder = c.in-Some.holder;
      is_first = found_by c.args.resource c.args.placed.now c.holder.result (Some c.in-Some.holder)
          c.saturating_sub.result (one.cycle - 1) c.holder.ensures
          c.saturating_sub.ensures c.in-Some.is;
      by = refl;
    }
