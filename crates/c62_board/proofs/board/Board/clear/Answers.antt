use Rattle.std.proofs.Common.{ap}
use Rattle.c62_sheet.specs.Lawful.{Placements}
use Rattle.c62_board.proofs.Journals.{sound_empty}
use Rattle.c62_board.proofs.board.Board.clear.Goals as goal

pub invariant_of-self : goal.invariant_of-self
invariant_of-self c =
    let plan = ap (λ (p : Placements). p.plan) c.clear.ensures in
    sound_empty _ (rw plan c.self.invariant.plan) (rw plan (ap (λ (p : Placements). p.spots) c.clear.ensures))
    c.clear-2.ensures.items
