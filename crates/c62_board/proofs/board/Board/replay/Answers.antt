use Rattle.std.proofs.Common.{ap, sym, ◌∙◌, rules}
use Rattle.c62_depend.specs.Plan.{insns_of, IsPlan}
use Rattle.c62_sheet.specs.Lawful.{Placements}
use Rattle.c62_board.specs.State.{nothing_of}
use Rattle.c62_board.proofs.Journals.{sound_played}
use Rattle.c62_board.proofs.board.Board.replay.Goals as goal

pub invariant_of-result : goal.invariant_of-result
invariant_of-result c =
    let known : IsPlan (insns_of c.play.new.sheet.plan) = search rules in
    let opened = c.in-Ok-new.ensures.ok in
    sound_played _ c.in-Ok-new.sheet.plan c.in-Ok-new.sheet.spots c.args.entries.now known c.play.ensures.plan
    (ap (λ (p : Placements). p.spots) opened ∙ sym (ap (λ (p : Placements). nothing_of p.plan) opened))
    c.in_default-play.ensures.played c.in-Ok.ensures.items c.in_default-play.ensures.legal
