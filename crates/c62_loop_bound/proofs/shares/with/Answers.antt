use Rattle.std.proofs.Common.{arith, ◌<◌}
use Rattle.c62_pair.specs.Uses.{insns_in}
use Rattle.c62_loop_bound.specs.Share.{width_of}
use Rattle.c62_loop_bound.proofs.Greatest.{found_with}
use Rattle.c62_loop_bound.proofs.shares.with.Goals as goal

pub returns-clause-found : goal.returns-clause-found
returns-clause-found c =
    let some : 0 < width_of c.args.share = omega (arith, c.width.ensures, c.if-width-eq0.false) in
    found_with c.args.counter (insns_in c.args.work.now) c.args.share c.args.least c.cycles.result c.max.result
    c.requires.found some c.cycles.ensures.cycles c.max.ensures
