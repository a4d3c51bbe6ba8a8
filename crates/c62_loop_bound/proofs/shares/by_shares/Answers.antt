use Rattle.c62_pair.specs.Uses.{insns_in}
use Rattle.c62_loop_bound.proofs.Greatest.{covered}
use Rattle.c62_loop_bound.proofs.shares.by_shares.Goals as goal

pub returns-clause-covers : goal.returns-clause-covers
returns-clause-covers c =
    let a = c.with_side-on_a.ensures in
    let b = c.with_side.ensures in
    covered c.args.counter (insns_in c.args.work.now) c.by_units-units.result c.with_side-on_a.result c.with_side.result
    a.least b.least c.by_units-units.ensures.covers
    (record { cross_path = a.cross_path; data_path = a.data_path; reads = a.reads })
    (record { cross_path = b.cross_path; data_path = b.data_path; reads = b.reads })
