use Rattle.std.proofs.Common.{◌≡◌}
use Rattle.std.specs.Prelude.{map}
use Rattle.c62_live.proofs.Counted.{tracked_before}
use Rattle.c62_live.proofs.LiveEach.{AreLast}
use Rattle.c62_live.proofs.rows.live_rows.Given as goal

-- the registers in the cycle that was gone over last, and the rows so far
abbrev pub invariant-loop-left : goal.invariant-loop-left
invariant-loop-left l =
    (l.tracked.items ≡ map (tracked_before l.placed l.cycles l.left) l.regs.items)
    × AreLast l.placed l.regs.items l.cycles l.left l.rows.items
