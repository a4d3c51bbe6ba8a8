use Rattle.c62_sheet.proofs.Common.{◌≡◌, ◌<◌, ℕ, length, get_or, insns_of, nothing_placed, lacking}
use Rattle.c62_sheet.proofs.index.reset.Given as goal

abbrev pub invariant-loop-j : goal.invariant-loop-j
invariant-loop-j l = (j : ℕ) → j < l.j
    → get_or l.missing j 0 ≡ lacking (insns_of l.plan) (nothing_placed (length (insns_of l.plan))) j
