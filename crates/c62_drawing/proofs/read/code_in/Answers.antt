use Rattle.std.specs.Option.{option_copied}
use Rattle.c62_drawing.proofs.Reading.{code_none}
use Rattle.c62_drawing.proofs.read.code_in.Goals as goal

pub returns : goal.returns
returns c = code_none c.args.isa (option_copied c.args.from) c.args.text.now c.in-Err.fault c.in_default.not-Memory
    c.in-Err.ensures
