use Rattle.std.proofs.Common.{ℕ, ◌<◌, get_or}
use Rattle.c62_packet.specs.declared.placed.Placed.{Placed}
use Rattle.c62_loop.specs.Whole.{ComesBehind}
use Rattle.c62_loop_match.proofs.begins.early_among.Given as goal

abbrev pub invariant-loop-number : goal.invariant-loop-number
invariant-loop-number l = (k : ℕ) (d : Placed) → k < l.number → ComesBehind l.counter l.one (get_or l.others k d)
