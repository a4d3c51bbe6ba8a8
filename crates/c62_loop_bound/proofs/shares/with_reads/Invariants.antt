use Rattle.std.proofs.Common.{◌≡◌, ◌<◌, ◌≤◌, ◌*◌}
use Rattle.c62_op.specs.declared.register.Reg.{Reg}
use Rattle.c62_read.specs.declared.limits.TheConstants.{MOST_INSTRUCTIONS}
use Rattle.c62_pair.specs.Uses.{insns_in}
use Rattle.c62_loop_bound.specs.declared.share.Share.TheVariants.{Reads}
use Rattle.c62_loop_bound.specs.Steps.{IsFound, Covers}
use Rattle.c62_loop_bound.proofs.shares.with_reads.Given as goal

-- the registers so far
abbrev pub invariant-loop-number : goal.invariant-loop-number
invariant-loop-number l = (l.most ≤ 3 * MOST_INSTRUCTIONS) × IsFound l.counter (insns_in l.work) l.most
    × (l.least ≤ l.most)
    × ((reg : Reg) → reg.side ≡ l.side → reg.number < l.number → Covers l.counter (insns_in l.work) (Reads reg) l.most)
