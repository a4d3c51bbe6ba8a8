use Rattle.c62_op.specs.declared.register.Side.{Side}
use Rattle.c62_op.specs.declared.register.Side.TheVariants.{A, B}
use Rattle.c62_depend.specs.Plan.{insns_of}
use Rattle.c62_sheet.specs.Least.{HasNoPick}
use Rattle.c62_sheet.proofs.Picks.{some_ready}
use Rattle.c62_board.proofs.laws.has_a_pick.Goals as goal

pub unreachable-requires : goal.unreachable-requires
unreachable-requires c =
    let w = some_ready (insns_of c.args.board.now.plan) c.args.board.now.spots c.requires in
    none w.0 w.1.0 w.1.1
  where
    none : (of : Side) → HasNoPick (insns_of c.args.board.now.plan) c.args.board.now.spots of
    none A = c.in_default.ensures
    none B = c.in_default-pick.ensures
