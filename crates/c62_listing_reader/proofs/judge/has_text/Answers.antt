use Rattle.std.proofs.Common.{sym, ap, ◌∙◌}
use Rattle.c62_line.specs.Line.{said_of}
use Rattle.c62_listing_reader.specs.Reading.{read_as}
use Rattle.c62_listing_reader.proofs.ToldLines.{line_allowed}
use Rattle.c62_listing_reader.proofs.judge.has_text.Goals as goal

pub returns-in-Ok : goal.returns-in-Ok
returns-in-Ok c =
    let reading = c.in-Ok.field-0 in
    sym (line_allowed c.args.isa c.args.front c.args.line.now reading.label (said_of reading.what) c.requires.front
    (sym c.requires.read ∙ ap read_as c.in-Ok.is))
