use Rattle.c62_adopt_line.specs.Line.{line_written}
use Rattle.c62_adopt_cut.proofs.ClockLemmas.{below_line}
use Rattle.c62_adopt_cut.proofs.clock.Clock.below.Goals as goal

pub returns : goal.returns
returns c = λ above small behind is.
    rw c.packet_below.ensures
    (below_line c.args.self above (line_written c.args.line.now) c.args.stand c.cycles_added.result small behind is
    c.cycles_added.ensures.cycles
    c.cycles_added.ensures.few c.requires.past)
