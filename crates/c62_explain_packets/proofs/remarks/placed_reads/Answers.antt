use Rattle.std.proofs.Common.{rules, ◌∙◌}
use Rattle.c62_explain_packets.proofs.RemarkLemmas.{reads_next}
use Rattle.c62_explain_packets.proofs.remarks.placed_reads.Goals as goal

pub loop-early-preserved : goal.loop-early-preserved
loop-early-preserved c =
    reads_next c.args.reads.now c.loop-early.early-index c.loop-early.all.items c.push.new.self.items
    c.in_ok-placed_read.field-0 c.early-item.result (search rules)
    (c.in_ok-placed_read.ensures ∙ c.early-item.is) c.loop-early.invariant (search rules)
