use Rattle.c62_answer.proofs.OneBoard.{one_board}
use Rattle.c62_answer.proofs.OneText.{one_packing, one_text}
use Rattle.c62_answer.proofs.laws.turns_pack_once.Goals as goal

pub returns-clause-board : goal.returns-clause-board
returns-clause-board c = one_board

pub returns-clause-packets : goal.returns-clause-packets
returns-clause-packets c = one_packing

pub returns-clause-text : goal.returns-clause-text
returns-clause-text c = one_text
