use Rattle.std.proofs.Common.{rules}
use Rattle.c62_explain_packets.proofs.RemarkLemmas.{placed_next}
use Rattle.c62_explain_packets.proofs.remarks.all_placed.Goals as goal

pub loop-finding-preserved : goal.loop-finding-preserved
loop-finding-preserved c =
    placed_next c.args.isa c.args.text.now c.loop-finding.all.items c.push.new.self.items c.in_ok-placed.field-0
    c.loop-finding.invariant c.in_ok-placed.ensures.there (search rules)
