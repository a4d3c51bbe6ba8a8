use Rattle.c62_sheet.proofs.Common.{◌<◌, FunctionalUnit, index_of, insns_of, withdrawn, Fits}
use Rattle.c62_sheet.proofs.judge.fits_without.Given as goal

abbrev pub invariant-loop-unit : goal.invariant-loop-unit
invariant-loop-unit l =
    (unit : FunctionalUnit) → index_of unit < l.unit-index
    → Fits (insns_of l.plan) (withdrawn l.spots l.q) l.i (record { cycle = l.cycle; unit = unit }) → ⊥
