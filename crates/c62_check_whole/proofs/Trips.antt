-- The trips of a loop are made that are sure.
use Rattle.std.proofs.Common.{◌≡◌, ℕ, ◌^◌, ◌<◌, true, List, Option, Some, None, sym, subst, arith}
use Rattle.std.proofs.lemmas.Bool.Decides.{nat_tests}
use Rattle.clap.specs.Words.{Text as Name}
use Rattle.c62_read.specs.Block.{Serial}
use Rattle.c62_serial.specs.State.{Machine, IsSound}
use Rattle.c62_loop.specs.Loop.{Region, trips_of}
use Rattle.c62_check_loop.specs.Region.{IsRegionOf}
use Rattle.c62_check_loops.specs.Constant.{constant_at}
use Rattle.c62_check_loops.specs.Granted.{is_enough}
use Rattle.c62_check_loops.proofs.Constants.{trips_known}
use Rattle.c62_check_whole.specs.Promised.{AreMade, AreTripsKept}

-- A loop makes as many trips as are sure of it, each time that it is entered: it finds its constant in the counter, or a promise holds.
pub are_made : (trips : List (Name × ℕ)) (blocks : List Serial) (number : ℕ) (region : Region) (label : Name)
    (constant : Option ℕ) (least : ℕ) (machine : Machine) → IsRegionOf blocks number region
    → constant_at blocks number ≡ constant → is_enough trips label constant least ≡ true → IsSound machine
    → AreTripsKept constant region least machine → AreMade region least machine
are_made trips blocks number region label None least machine of is enough sound kept = kept
are_made trips blocks number region label (Some constant) least machine of is enough sound kept =
    let known = trips_known blocks number region constant of is in
    let made : trips_of region machine ≡ constant = known.1 machine sound in
    record {
      enough = grind (arith, nat_tests, enough, made);
      word = subst (λ (n : ℕ). n < 2 ^ 32) (sym made) known.0;
    }
