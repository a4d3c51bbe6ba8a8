use Rattle.std.proofs.Common.{◌≡◌, ◌∙◌, subst}
use Rattle.c62_read.specs.Block.{Serial}
use Rattle.c62_depend.specs.Plan.{insns_of}
use Rattle.c62_sheet.specs.Least.{IsComplete}
use Rattle.c62_work.proofs.scheduling.schedule.Goals as goal

pub returns : goal.returns
returns g c =
    let board = c.in_ok-board.board in
    let given_is : c.in_ok-given.given ≡ c.args.plan = c.in_ok-given.ensures in
    record {
      plan_is = c.in_ok-board.ensures.plan_is ∙ given_is;
      complete = subst (λ (plan : Serial). IsComplete (insns_of plan) board.spots) given_is
          c.in_ok-board.ensures.complete;
      sound = c.plan-2.ensures.sound;
    }
