use Rattle.c62_sheet.proofs.Common.{ℕ, ◌<◌, ◌≡◌, None, get_or, Link, spot_at}
use Rattle.c62_sheet.proofs.judge.is_last.Given as goal

abbrev pub invariant-loop-link : goal.invariant-loop-link
invariant-loop-link l = (k : ℕ) (d : Link) → k < l.link-index → spot_at l.spots (get_or l.followers k d).number ≡ None
