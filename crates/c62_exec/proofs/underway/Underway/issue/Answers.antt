use Rattle.std.proofs.Common.{arith}
use Rattle.c62_exec.proofs.Fitting.{fits_first}
use Rattle.c62_exec.proofs.underway.Underway.issue.Goals as goal

pub issue-requires-clause-fits : goal.issue-requires-clause-fits
issue-requires-clause-fits c =
    fits_first c.args.cycle c.loop-rest.rest.now c.placed-item.result c.loop-rest.self.pipe c.loop-rest.state.machine
    c.in-len1-up.len_at_least c.placed-item.is c.loop-rest.invariant.fit
