-- Texts whose branches or landings meet, as packets in flight.
use Rattle.std.proofs.Common.{[], ◌∷◌, refl, inr, arith}
use Rattle.c62_serial.specs.State.{Machine, IsSound}
use Rattle.c62_meaning.proofs.Runs.{acts_to, the_run}
use Rattle.c62_flight.specs.declared.stop.Stop.TheVariants.{End, Clash, Branches}
use Rattle.c62_flight.specs.Text.{At}
use Rattle.c62_flight.specs.Samples.{a2, five_a2, square, branch, packet, nop, text_of, Runs}
use Rattle.c62_flight.specs.Samples.{end_and_back}
use Rattle.c62_flight.proofs.RowTests.{ends_so, breaks_so, v}

pub clash : (opening : Machine) → IsSound opening
    → Runs (text_of (packet (square 1 ∷ []) ∷ packet (five_a2 2 ∷ []) ∷ nop 8 ∷ []) []) 100 opening (Clash a2 1 2) 2
unfolding the_run acts_to
clash opening sound = grind (
  arith,
  breaks_so (text_of (packet (square 1 ∷ []) ∷ packet (five_a2 2 ∷ []) ∷ nop 8 ∷ []) []) 100 opening (v 0 0 ∷ v 1 1 ∷
      []) (At 2) 2 1 (Clash a2 1 2) sound,
)

pub clash_behind : (opening : Machine) → IsSound opening
    → Runs (text_of (packet (square 1 ∷ square 2 ∷ []) ∷ []) []) 100 opening (Clash a2 1 2) 1
unfolding the_run acts_to
clash_behind opening sound =
    breaks_so (text_of (packet (square 1 ∷ square 2 ∷ []) ∷ []) []) 100 opening (v 0 0 ∷ []) (At 1) 1 1 (Clash a2 1 2)
    sound
    (record { steps = ((refl, refl, refl), (refl, refl)); starts = refl; whole = refl; breaks = refl; seen = inr refl })

pub branches : (opening : Machine) → IsSound opening
    → Runs (text_of (packet (branch 1 0 ∷ branch 2 0 ∷ []) ∷ []) (0 ∷ [])) 100 opening (Branches 1 2) 1
unfolding the_run acts_to
branches opening sound = grind (
  arith,
  breaks_so (text_of (packet (branch 1 0 ∷ branch 2 0 ∷ []) ∷ []) (0 ∷ [])) 100 opening (v 0 0 ∷ []) (At 1) 1 0
      (Branches 1 2) sound,
)

pub end_and_back_flies : (opening : Machine) → IsSound opening → Runs end_and_back 100 opening End 8
unfolding the_run acts_to
end_and_back_flies opening sound = grind (
  arith,
  ends_so end_and_back 100 opening (v 0 0 ∷ v 1 1 ∷ v 2 2 ∷ v 4 6 ∷ v 3 7 ∷ []) (At 4) 8 End sound,
)

pub branches_first : (opening : Machine) → IsSound opening
    → Runs (text_of (packet (branch 1 0 ∷ branch 2 0 ∷ five_a2 3 ∷ five_a2 4 ∷ []) ∷ []) (0 ∷ [])) 100 opening
    (Branches 1 2) 1
unfolding the_run acts_to
branches_first opening sound = grind (
  arith,
  breaks_so (text_of (packet (branch 1 0 ∷ branch 2 0 ∷ five_a2 3 ∷ five_a2 4 ∷ []) ∷ []) (0 ∷ [])) 100 opening (v 0 0
      ∷ []) (At 1) 1 0 (Branches 1 2) sound,
)
