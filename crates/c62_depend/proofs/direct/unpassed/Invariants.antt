use Rattle.c62_depend.proofs.Common.{◌-◌}
use Rattle.c62_depend.proofs.Common.{ℕ, List, Uses, insns_in, not, ◌&&◌}
use Rattle.c62_depend.specs.Direct.{keep_order, is_passed}
use Rattle.c62_depend.specs.Walk.{AreOrdered, AreOrders}
use Rattle.c62_depend.proofs.Walks.{HasThoseBelow}
use Rattle.c62_depend.proofs.direct.unpassed.Given as goal
use Rattle.c62_read.specs.declared.limits.TheConstants.{MOST_INSTRUCTIONS}

abbrev pub invariant-loop-i : goal.invariant-loop-i
invariant-loop-i l =
    (uses : List Uses) (j : ℕ) → AreOrders uses j l.orders → AreOrdered uses j l.found
    → HasThoseBelow (λ k. keep_order (insns_in uses) k j && not (is_passed (insns_in uses) k j)) l.at j l.direct

abbrev pub decreases-loop-i : goal.decreases-loop-i
decreases-loop-i l = MOST_INSTRUCTIONS - l.at
