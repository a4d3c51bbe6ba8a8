use Rattle.std.proofs.Common.{ℕ, ◌+◌, ap}
use Rattle.c62_pipeline.proofs.chosen.trips_needed.Goals as goal

pub returns-in-Some : goal.returns-in-Some
returns-in-Some c = record {
  made = c.in-Some.made;
  trips = c.args.terms.trips;
  longest = c.args.terms.longest;
  is = rw c.in-Some.is at c.in_ok-made.ensures;
  enters = ap (λ (n : ℕ). n + 1) c.from.ensures;
}
