use Rattle.std.proofs.Common.{arith}
use Rattle.c62_why.proofs.Uses.{times_are_uses}
use Rattle.c62_why.proofs.taken.uses.Goals as goal

pub returns-clause-uses : goal.returns-clause-uses
returns-clause-uses c =
    let same = times_are_uses c.args.resource c.args.insn c.args.unit in
    grind (arith, c.times.ensures.times, c.taken_by-taken.ensures, c.as_slice.ensures.value, same)
