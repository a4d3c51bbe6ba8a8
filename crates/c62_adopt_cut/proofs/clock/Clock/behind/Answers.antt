use Rattle.std.proofs.Common.{◌∙◌, sym}
use Rattle.c62_adopt_line.specs.Line.{line_written}
use Rattle.c62_adopt_cut.specs.Cut.{cuts_of, place_of, with_label_cut}
use Rattle.c62_adopt_cut.proofs.ClockLemmas.{behind_branch}
use Rattle.c62_adopt_cut.proofs.clock.Clock.behind.Goals as goal

pub returns-then-is_branching-clause-behind : goal.returns-then-is_branching-clause-behind
returns-then-is_branching-clause-behind c = λ above clock is.
    behind_branch c.args.self c.cut_behind.result above (line_written c.args.line.now) c.args.stand
    (sym c.is_branching.ensures ∙ c.if-is_branching.true)
    is clock c.cut_behind.ensures.now c.cut_behind.ensures.packet
    (c.cut_behind.ensures.cuts (with_label_cut (place_of above (line_written c.args.line.now)) (cuts_of above))
    clock.cuts)
