use Rattle.std.proofs.Common.{rules}
use Rattle.c62_printing.proofs.Bytes.{byte_behind}
use Rattle.c62_printing.proofs.dumping.push_bytes.Goals as goal

pub loop-offset-preserved : goal.loop-offset-preserved
loop-offset-preserved c =
    byte_behind c.args.state.now.machine c.args.dump.place c.loop-offset.offset _ _ _ _ c.loop-offset.invariant
    c.byte_at.ensures (search rules)
