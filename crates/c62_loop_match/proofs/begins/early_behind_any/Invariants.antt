use Rattle.std.proofs.Common.{ℕ, ◌<◌, [], ◌∷◌, get_or}
use Rattle.c62_packet.specs.declared.placed.Placed.{Placed}
use Rattle.c62_loop.specs.Whole.{ComeBehind}
use Rattle.c62_loop_match.proofs.begins.early_behind_any.Given as goal

abbrev pub invariant-loop-number : goal.invariant-loop-number
invariant-loop-number l = (k : ℕ) (d : Placed) → k < l.number
    → ComeBehind l.counter (get_or l.ones k d ∷ []) l.others
