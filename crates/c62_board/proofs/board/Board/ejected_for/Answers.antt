use Rattle.std.proofs.Common.{arith, ap}
use Rattle.c62_depend.specs.Plan.{insns_of}
use Rattle.c62_board.specs.State.{BoardState}
use Rattle.c62_board.proofs.Victims.{not_late}
use Rattle.c62_board.proofs.board.Board.ejected_for.Goals.{then-self-eq0-via-then-self-eq0}
use Rattle.c62_board.proofs.board.Board.ejected_for.Goals.{then-self-eq0-via-else-self-eq0+then-least-early}
use Rattle.c62_board.proofs.board.Board.ejected_for.Goals as goal

pub returns-then-self-eq0 : goal.returns-then-self-eq0
returns-then-self-eq0 c = elim c.then-self-eq0.branch [
  | then-self-eq0-via-then-self-eq0 w ↦ λ q e. (let left = e.left in
      let none = w.if-self-eq0.true in
      let same = ap (λ (b : BoardState). b.budget) c.self.view_is in
      omega (arith, left, none, same))
  | then-self-eq0-via-else-self-eq0+then-least-early w ↦ λ q e.
      not_late (insns_of c.args.self.now.plan) c.args.self.now.spots c.args.self.now.budget c.args.i w.early.result q
      c.args.least c.requires.least
      (rw (← c.self.view_is) w.early.ensures) w.if-least-early.true e
]
