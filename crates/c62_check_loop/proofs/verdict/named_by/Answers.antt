use Rattle.std.proofs.Common.{rules}
use Rattle.c62_check_loop.proofs.Naming.{one_more_named}
use Rattle.c62_check_loop.proofs.verdict.named_by.Goals as goal

pub loop-entry-preserved : goal.loop-entry-preserved
loop-entry-preserved c =
    one_more_named c.args.past.now c.loop-entry.entry-index c.entry-item.result c.loop-entry.named c.names_of.result
    c.joined-named.result (search rules) c.entry-item.is c.joined-named.ensures c.names_of.ensures
    c.loop-entry.invariant
