-- The first instruction of those that fit.
use Rattle.std.proofs.Common.{◌≡◌, ℕ, ◌<◌, ◌≤◌, List, [], ◌∷◌, length, get_or, sym, subst, arith}
use Rattle.c62_serial.specs.State.{Machine}
use Rattle.c62_packet.specs.declared.placed.Placed.{Placed}
use Rattle.c62_pipe.specs.Flight.{Flight, FitsWrites, act_at}
use Rattle.c62_exec.specs.Step.{Fit}

pub fits_first : (cycle : ℕ) (insns : List Placed) (p : Placed) (flight : Flight) (machine : Machine) → 0 < length insns
    → p ≡ get_or insns 0 p → Fit cycle insns flight machine
    → FitsWrites cycle p (act_at p machine) flight
fits_first cycle [] p flight machine l e h = absurd (omega arith)
fits_first cycle (q ∷ insns) p flight machine l e h = subst
    (λ (r : Placed). FitsWrites cycle r (act_at r machine) flight) (sym e) h.1
