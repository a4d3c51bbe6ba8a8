use Rattle.std.proofs.Common.{ℕ, ◌<◌, get_or}
use Rattle.c62_read.specs.declared.block.SerialInsn.{SerialInsn}
use Rattle.c62_packet.specs.declared.placed.Placed.{Placed}
use Rattle.c62_meaning.specs.Laws.{StandsAs}
use Rattle.c62_loop_match.proofs.stands.stand_for.Given as goal

abbrev pub invariant-loop-number : goal.invariant-loop-number
invariant-loop-number l = (k : ℕ) (d : SerialInsn) (q : Placed) → k < l.number
    → StandsAs (get_or l.entries k d) (get_or l.placed k q)
