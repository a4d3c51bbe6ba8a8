use Rattle.std.proofs.Common.{rules}
use Rattle.c62_trace.proofs.Telling.{front_more}
use Rattle.c62_trace.proofs.stream.write_whole.Goals as goal

pub loop-taken-preserved : goal.loop-taken-preserved
loop-taken-preserved g c =
    front_more (g.W.Write.contents c.args.stream.now) (g.W.Write.contents c.loop-taken.stream)
    (g.W.Write.contents c.offer.new.stream) c.args.bytes.now
    c.loop-taken.taken c.in-Ok.count (search rules) c.loop-taken.invariant c.in-Ok.ensures.2
