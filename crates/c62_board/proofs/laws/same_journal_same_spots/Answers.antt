use Rattle.std.proofs.Common.{sym, ap, ◌∙◌, List}
use Rattle.c62_read.specs.Block.{Serial}
use Rattle.c62_sheet.specs.declared.entry.Entry.{Entry}
use Rattle.c62_sheet.specs.Journal.{replayed}
use Rattle.c62_board.specs.State.{nothing_of}
use Rattle.c62_board.proofs.laws.same_journal_same_spots.Goals as goal

pub returns : goal.returns
returns c =
    sym c.plan.ensures.sound.replays
    ∙ ap (λ (p : Serial). replayed (nothing_of p) c.args.first.now.journal) c.requires.plan
    ∙ ap (λ (es : List Entry). replayed (nothing_of c.args.second.now.plan) es) c.requires.journal
    ∙ c.plan-2.ensures.sound.replays
