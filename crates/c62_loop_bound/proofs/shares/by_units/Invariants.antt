use Rattle.std.proofs.Common.{◌<◌, ◌≤◌, ◌*◌}
use Rattle.c62_insn.specs.declared.unit_set.UnitSet.{UnitSet}
use Rattle.c62_read.specs.declared.limits.TheConstants.{MOST_INSTRUCTIONS}
use Rattle.c62_pair.specs.Uses.{insns_in}
use Rattle.c62_loop_bound.specs.declared.share.Share.TheVariants.{Units}
use Rattle.c62_loop_bound.specs.Steps.{IsFound, Covers}
use Rattle.c62_loop_bound.proofs.shares.by_units.Given as goal

-- the sets so far
abbrev pub invariant-loop-bits : goal.invariant-loop-bits
invariant-loop-bits l = (l.least ≤ 3 * MOST_INSTRUCTIONS) × IsFound l.counter (insns_in l.work) l.least
    × ((set : UnitSet) → set.0 < l.bits → Covers l.counter (insns_in l.work) (Units set) l.least)
