use Rattle.std.proofs.Common.{◌∙◌, sym}
use Rattle.c62_adopt_line.specs.Line.{line_written}
use Rattle.c62_adopt_cut.specs.Cut.{cuts_of}
use Rattle.c62_adopt_cut.proofs.ClockLemmas.{at_label}
use Rattle.c62_adopt_cut.proofs.clock.Clock.at.Goals as goal

pub returns-then-is_some-clause-at : goal.returns-then-is_some-clause-at
returns-then-is_some-clause-at c = λ above clock.
    at_label c.args.self c.cut.result above (line_written c.args.line.now) (sym c.is_some.ensures
    ∙ c.if-is_some.true) clock c.cut.ensures.now
    c.cut.ensures.packet (c.cut.ensures.cuts (cuts_of above) clock.cuts)
