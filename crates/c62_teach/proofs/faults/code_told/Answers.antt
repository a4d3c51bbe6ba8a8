use Rattle.std.specs.Option.{option_copied}
use Rattle.c62_teach.proofs.Strict.{code_none}
use Rattle.c62_teach.proofs.faults.code_told.Goals as goal

pub returns : goal.returns
returns c = code_none c.args.isa (option_copied c.args.from) c.args.start.now.settings.items c.args.start.now.course
    c.args.text.now c.new.result.items c.in-Err.fault c.in_default.not-Memory c.in-Err.ensures c.new.ensures.items
