-- The work of a region as the code has it, and its instances.
use Rattle.std.specs.Prelude.{ℕ, ◌-◌, nat_lt, if◌then◌else◌, slice_index_or}
use Rattle.c62_pair.specs.Uses.{insns_in}
use Rattle.c62_loop.specs.Stage.{Stage, Straights, cycles_in}
use Rattle.c62_loop_match.specs.declared.path.Work.{Work}
use Rattle.c62_loop_match.specs.declared.path.Instance.{Instance}
use Rattle.c62_packet.specs.declared.placed.Placed.{Placed}
use Rattle.c62_meaning.specs.Cut.{moved}

abbrev pub straights_of : Work → Straights
straights_of work = record { before = insns_in work.before.items; body = insns_in work.body.items; behind = insns_in work.behind.items }

-- when it is issued, and its line
abbrev pub instance : Placed → Instance
instance p = record { cycle = p.cycle; line = p.line }

-- the instance of this pass, or one in the epilog
abbrev pub later_of : ℕ → ℕ → ℕ → Stage → Placed
later_of interval passes pass stage =
    if nat_lt pass passes then moved (cycles_in interval pass) stage.kernel
    else moved (cycles_in interval passes) (slice_index_or stage.late (pass - passes) stage.kernel)
