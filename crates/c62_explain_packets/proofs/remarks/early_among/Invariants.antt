use Rattle.std.proofs.Common.{◌≡◌, ◌++◌, drop}
use Rattle.c62_explain_packets.specs.Warned.{early_among}
use Rattle.c62_explain_packets.proofs.remarks.early_among.Given as goal

abbrev pub invariant-loop-draft : goal.invariant-loop-draft
invariant-loop-draft l = l.reads.items ++ early_among (drop l.draft-index l.drafts) ≡ early_among l.fn.drafts
