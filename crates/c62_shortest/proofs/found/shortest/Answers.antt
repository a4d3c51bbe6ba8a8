use Rattle.std.proofs.Common.{arith, subst}
use Rattle.std.proofs.lemmas.Result.{IfOk-weaker}
use Rattle.c62_read.specs.Block.{Serial}
use Rattle.c62_depend.specs.Plan.{insns_of}
use Rattle.c62_sheet.specs.Counts.{set_length}
use Rattle.c62_shortest.specs.Shortest.{IsShortest}
use Rattle.c62_shortest.proofs.EitherSide.{as_written}
use Rattle.c62_shortest.proofs.Lengths.{found_for}
use Rattle.c62_shortest.proofs.found.shortest.Goals as goal

pub shortest_by-requires-clause-by : goal.shortest_by-requires-clause-by
shortest_by-requires-clause-by c = as_written (insns_of c.plan-plan.result.now)

pub returns-in-Some : goal.returns-in-Some
returns-in-Some c =
    let board = c.args.board.now in
    let most = set_length (insns_of board.plan) board.spots in
    let own = c.in_ok-found.found.schedule.packets.cycles in
    let long = c.in_ok-own.ensures.as_long in
    let short = c.in_ok-found.ensures.no_longer in
    IfOk-weaker c.shortest_by-in-Some.result (IsShortest c.plan-plan.result.now own) (IsShortest board.plan most)
    (λ found is. found_for board.plan own most found (omega (arith, long, short))
    (subst (λ (plan : Serial). IsShortest plan own found) c.plan-plan.ensures.plan is)) c.shortest_by-in-Some.ensures
