use Rattle.std.proofs.Common.{◌≡◌}
use Rattle.std.specs.Prelude.{map}
use Rattle.c62_live.specs.Lives.{live_count}
use Rattle.c62_live.proofs.Counted.{IsMostOfLast, tracked_before}
use Rattle.c62_live.proofs.lives.most_of.Given as goal

-- the registers in the cycle that was gone over last, and the greatest number so far
abbrev pub invariant-loop-left : goal.invariant-loop-left
invariant-loop-left l =
    (l.tracked.items ≡ map (tracked_before l.placed l.cycles l.left) l.regs)
    × IsMostOfLast (live_count l.placed l.regs l.cycles) l.cycles l.left l.most
