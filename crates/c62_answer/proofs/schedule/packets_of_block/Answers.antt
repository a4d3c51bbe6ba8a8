use Rattle.c62_answer.proofs.Schedules.{scheduled_one}
use Rattle.c62_answer.proofs.schedule.packets_of_block.Goals as goal

pub returns : goal.returns
returns g c = scheduled_one c.args.packing c.args.block c.in_ok-board.board c.in_ok-packets_from.field-0
    c.in_ok-board.ensures c.in_ok-packets_from.ensures
