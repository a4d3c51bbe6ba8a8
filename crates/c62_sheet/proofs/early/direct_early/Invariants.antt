use Rattle.c62_sheet.proofs.EarlyCycles.{IsEarlyBelow}
use Rattle.c62_sheet.proofs.early.direct_early.Given as goal

abbrev pub invariant-loop-link : goal.invariant-loop-link
invariant-loop-link l = IsEarlyBelow l.spots l.needs l.link-index l.cycle
