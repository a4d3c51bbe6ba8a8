use Rattle.c62_board.proofs.Turns.{placed_turn}
use Rattle.c62_board.proofs.board.Board.take_place.Goals as goal

pub returns : goal.returns
returns c =
    placed_turn c.args.self.now c.make_room.new.self c.put.new.self c.args.side c.args.i 1 c.args.spot c.who_of.result
    c.who_of.ensures.who c.requires c.in-Ok.ensures.room c.put.ensures
