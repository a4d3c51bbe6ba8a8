use Rattle.std.proofs.Common.{arith, ◌-◌}
use Rattle.c62_board.proofs.board.Board.turn_of.Goals as goal

pub returns-in-Eject : goal.returns-in-Eject
returns-in-Eject c =
    let left = c.in-Eject.ensures.1.left in
    (c.spot_without.ensures.0, (c.args.self.now.budget - 1, (c.spot_without.ensures.1, omega (arith, left))))
