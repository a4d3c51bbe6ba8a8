-- What is found of a block.
use Rattle.std.proofs.Common.{arith, ◌≡◌, ℕ, ◌≤◌, sym, subst}
use Rattle.c62_read.specs.Block.{Serial}
use Rattle.c62_depend.specs.Plan.{insns_of}
use Rattle.c62_refute.specs.Window.{TakesAtLeast}
use Rattle.c62_refute.proofs.AtLeast.{takes_none}
use Rattle.c62_shortest.specs.declared.schedule.Schedule.{Schedule}
use Rattle.c62_shortest.specs.declared.searched.Shortest.{Shortest as Found}
use Rattle.c62_shortest.specs.Shortest.{IsScheduleOf, IsShortest}

-- a schedule of which a search tells nothing
pub open_found : (block : Serial) (most : ℕ) (schedule : Schedule) (found : Found) → found.schedule ≡ schedule
    → found.least ≡ 0 → IsScheduleOf block schedule
    → schedule.packets.cycles ≤ most → IsShortest block most found
open_found block most schedule found same none is short = record {
  is = subst (λ (s : Schedule). IsScheduleOf block s) (sym same) is;
  no_longer = subst (λ (s : Schedule). s.packets.cycles ≤ most) (sym same) short;
  least = subst (λ (n : ℕ). TakesAtLeast (insns_of block) n) (sym none) (takes_none (insns_of block));
}

-- what is found for a shorter schedule is found for a longer one
pub found_for : (block : Serial) (most more : ℕ) (found : Found) → most ≤ more → IsShortest block most found
    → IsShortest block more found
found_for block most more found less is = record
    { is = is.is; no_longer = (let short = is.no_longer in omega (arith, short, less)); least = is.least }
