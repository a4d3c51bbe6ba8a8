use Rattle.std.proofs.Common.{arith}
use Rattle.c62_depend.specs.Plan.{insns_of}
use Rattle.c62_refute.proofs.AtLeast.{takes_more}
use Rattle.c62_shortest.proofs.Lengths.{open_found}
use Rattle.c62_shortest.proofs.SameUnits.{refuted}
use Rattle.c62_shortest.proofs.searched.once.Goals as goal

pub returns-in-Refuted : goal.returns-in-Refuted
returns-in-Refuted c =
    let same = c.from.ensures in
    let before = c.in-Some.ensures in
    record {
      is = c.requires.best;
      no_longer = omega arith;
      least = takes_more (insns_of c.args.plan.now) c.in-Some.most c.from.result
          (refuted (insns_of c.args.plan.now) (insns_of c.args.by.now) c.in-Some.most c.requires.by
          (c.in_ok-search_for.ensures c.in-Refuted.is))
          (omega (arith, same, before));
    }

pub returns-in-Open : goal.returns-in-Open
returns-in-Open c =
    open_found c.args.plan.now c.args.best.packets.cycles c.args.best c.open-in-Open.result.found
    c.open-in-Open.ensures.schedule c.open-in-Open.ensures.least c.requires.best
    (omega arith)

pub returns-in_ok-found-in-Found : goal.returns-in_ok-found-in-Found
returns-in_ok-found-in-Found c =
    let found = c.in_ok-found-in-Found in
    open_found c.args.plan.now c.args.best.packets.cycles found.found c.open-in-Found.result.found
    c.open-in-Found.ensures.schedule c.open-in-Found.ensures.least
    found.ensures.is found.ensures.no_longer
