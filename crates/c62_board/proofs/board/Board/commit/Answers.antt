use Rattle.std.proofs.Common.{[], ◌∷◌}
use Rattle.c62_sheet.specs.declared.entry.Entry.TheVariants.{Place}
use Rattle.c62_board.proofs.Journals.{gains_adds}
use Rattle.c62_board.proofs.board.Board.commit.Goals as goal

pub returns-clause-placed : goal.returns-clause-placed
returns-clause-placed c =
    gains_adds c.args.self.now c.make_room.new.self c.put.new.self 1
    (Place c.args.proposal.now.number c.args.proposal.now.spot c.args.who ∷ []) c.in-Ok.ensures.room
    c.put.ensures
