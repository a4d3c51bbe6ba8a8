use Rattle.c62_sheet.proofs.Common.{◌≡◌, ℕ, ◌<◌, None, spot_at}
use Rattle.c62_sheet.proofs.sheet.take_out_all.Given as goal

abbrev pub invariant-loop-spot : goal.invariant-loop-spot
invariant-loop-spot l = (k : ℕ) → k < l.spot-index → spot_at l.spots k ≡ None
