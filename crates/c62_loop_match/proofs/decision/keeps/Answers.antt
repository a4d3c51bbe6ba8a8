use Rattle.std.proofs.Common.{subst}
use Rattle.c62_loop.specs.Stage.{Straights}
use Rattle.c62_loop_match.specs.declared.distances.Distances.{Distances}
use Rattle.c62_loop_match.specs.declared.distances.Distances.TheVariants.{Kept}
use Rattle.c62_loop_match.specs.Parts.{schedule_of}
use Rattle.c62_loop_match.specs.Path.{straights_of}
use Rattle.c62_loop_match.specs.Promise.{promises}
use Rattle.c62_loop_match.specs.Early.{AreFoundOfAll}
use Rattle.c62_loop_match.proofs.decision.keeps.Goals as goal

pub returns-in-Kept : goal.returns-in-Kept
returns-in-Kept c =
    subst (λ (straights : Straights). AreFoundOfAll (promises c.args.promise) straights
    (schedule_of c.args.schedule.now) c.args.most Kept) c.in_ok-work.ensures
    (subst (λ (found : Distances). AreFoundOfAll (promises c.args.promise) (straights_of c.in_ok-work.work)
    (schedule_of c.args.schedule.now) c.args.most found) c.in-Kept.is c.in_ok-distances_of.ensures)
