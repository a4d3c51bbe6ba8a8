use Rattle.c62_sheet.proofs.Common.{◌≡◌, ℕ, ◌<◌, slice_index}
use Rattle.c62_sheet.proofs.earliest.reset.Given as goal

abbrev pub invariant-loop-cycle : goal.invariant-loop-cycle
invariant-loop-cycle l = (j : ℕ) → j < l.cycle-index → slice_index l.earliest j ≡ 0
