-- Steps and branches in turn.
use Rattle.std.specs.Prelude.{ℕ, ◌+◌, nat_lt, nat_le, Bool, if◌then◌else◌}
use Rattle.c62_op.specs.declared.register.Reg.{Reg}
use Rattle.c62_packet.specs.declared.placed.Placed.{Placed}
use Rattle.c62_loop.specs.Counter.{steps_on}
use Rattle.c62_loop.specs.Whole.{entry_of}

-- p comes no later than q so many cycles later, and before it where it is a step
abbrev pub in_turn : Reg → ℕ → Placed → Placed → Bool
in_turn counter later p q = if steps_on counter (entry_of p) then nat_lt p.cycle (later + q.cycle) else nat_le p.cycle (later + q.cycle)
