use Rattle.c62_answer.proofs.Looping.{again_lined}
use Rattle.c62_answer.proofs.pipelining.in_lines.Goals as goal

pub returns : goal.returns
returns c =
    let looped = c.args.looped.now in
    again_lined c.args.isa looped.program looped.written c.args.begun c.in_ok-rows.rows c.requires
    (rw c.blocks-blocks.ensures.same at c.in_ok-rows.ensures)
