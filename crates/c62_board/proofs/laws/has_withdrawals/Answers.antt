use Rattle.std.proofs.Common.{arith, length, subst}
use Rattle.c62_depend.specs.Plan.{insns_of}
use Rattle.c62_sheet.specs.Lawful.{Placements}
use Rattle.c62_sheet.specs.Chain.{Marks}
use Rattle.c62_board.specs.Withdrawal.{GoesWith, withdrawals}
use Rattle.c62_board.proofs.Withdrawals.{withdraws_marked}
use Rattle.c62_board.proofs.laws.has_withdrawals.Goals as goal

pub returns : goal.returns
returns c = λ who.
    let block = insns_of c.args.board.now.plan in
    let marked : Marks block (GoesWith block c.args.board.now.spots c.args.i) c.going_with.result =
    subst (λ (p : Placements). Marks (insns_of p.plan) (GoesWith (insns_of p.plan) p.spots c.args.i)
    c.going_with.result) c.sheet.ensures.sheet c.going_with.ensures in (
      withdrawals c.going_with.result who (length block),
      withdraws_marked block c.args.board.now.spots c.args.i who (length block) c.going_with.result (omega arith)
          marked,
    )
