use Rattle.c62_answer.proofs.Schedules.{shown_one}
use Rattle.c62_answer.proofs.schedule.shown_of_block.Goals as goal

pub returns : goal.returns
returns g c = shown_one c.args.showing c.args.block c.in_ok-board.board c.in_ok-shown.shown c.in_ok-board.ensures
    c.in_ok-shown.ensures
