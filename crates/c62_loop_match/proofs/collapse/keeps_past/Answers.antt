use Rattle.std.proofs.Common.{ℕ, ◌∙◌, subst}
use Rattle.c62_loop.specs.Stage.{KeepDistances}
use Rattle.c62_loop_match.specs.declared.distances.Distances.{Distances}
use Rattle.c62_loop_match.specs.Path.{straights_of}
use Rattle.c62_loop_match.specs.Promise.{promises}
use Rattle.c62_loop_match.specs.Early.{AreFound}
use Rattle.c62_loop_match.proofs.collapse.keeps_past.Goals as goal

pub returns-in-Kept : goal.returns-in-Kept
returns-in-Kept c = λ placed is. (
    subst (λ (n : ℕ). KeepDistances (promises c.args.promise) (straights_of c.args.work.now) n placed)
    c.trips_in-trips.ensures
    (subst (λ (found : Distances). AreFound (promises c.args.promise) (straights_of c.args.work.now)
    c.trips_in-trips.result placed found) c.in-Kept.is
    (c.found_in-found.ensures placed (c.deref-2.ensures.value ∙ c.in_ok-instances.ensures ∙ is))))
