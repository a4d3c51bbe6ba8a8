use Rattle.c62_board.proofs.board.Board.blocks_least.Goals as goal

pub returns : goal.returns
returns c = rw (← c.self.view_is) c.blocks_least.ensures
