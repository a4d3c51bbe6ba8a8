use Rattle.c62_teach.proofs.Meets.{program_none}
use Rattle.c62_teach.proofs.apart.watched_text.Goals as goal

pub returns : goal.returns
returns c = program_none c.args.isa c.args.start.now.settings.items c.args.start.now.course c.args.apart.now
    c.args.text.now
    c.untold.result.lines.items c.untold.result.meets c.in-Err.fault c.in_default.not-Memory c.in-Err.ensures.err
    c.untold.ensures
