use Rattle.c62_teach.proofs.Strict.{program_none}
use Rattle.c62_teach.proofs.faults.program_told.Goals as goal

pub returns : goal.returns
returns c = program_none c.args.isa c.args.start.now.settings.items c.args.start.now.course c.args.text.now
    c.new.result.items
    c.in-Err.fault c.in_default.not-Memory c.in-Err.ensures.err c.new.ensures.items
