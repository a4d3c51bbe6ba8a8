use Rattle.c62_explain.proofs.HintLemmas.{adds_both}
use Rattle.c62_explain_packets.proofs.help.push_sharing.Goals as goal

pub loop-other-preserved : goal.loop-other-preserved
loop-other-preserved c = adds_both c.args.number _ _ _ c.loop-other.invariant c.in_ok-push_other.ensures
