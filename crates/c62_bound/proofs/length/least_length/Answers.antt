use Rattle.c62_depend.specs.Plan.{insns_of}
use Rattle.c62_bound.proofs.Lengths.{least_with}
use Rattle.c62_bound.proofs.length.least_length.Goals as goal

pub returns-in-Some : goal.returns-in-Some
returns-in-Some c =
    let least = least_with (insns_of c.args.plan.now) c.path_length.result c.in-Some.need c.path_length.ensures
    c.in-Some.ensures in
    rw (c.max.ensures, c.from-path.ensures, c.cycles.ensures) least
