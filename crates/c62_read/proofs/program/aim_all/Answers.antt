use Rattle.c62_read.proofs.Common.{arith}
use Rattle.c62_read.proofs.BlockLemmas.{all_aimed}
use Rattle.c62_read.proofs.program.aim_all.Goals as goal

pub returns : goal.returns
returns c =
    all_aimed c.args.number c.loop-entry.entries c.args.entries.now c.loop-entry.invariant.same
    (λ k d less. c.loop-entry.invariant.before k d (omega (arith, less, c.loop-entry-test.false)))
