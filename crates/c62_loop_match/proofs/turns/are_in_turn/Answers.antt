use Rattle.std.proofs.Common.{◌∙◌, sym}
use Rattle.std.proofs.lemmas.Bool.{OnTrue_from}
use Rattle.c62_loop_match.proofs.InTurn.{turn_all}
use Rattle.c62_loop_match.proofs.turns.are_in_turn.Goals as goal

pub returns : goal.returns
returns c = OnTrue_from c.all_before_all.result _
    (λ t. turn_all c.args.counter c.args.later c.args.ones.now c.args.others.now (sym c.all_before_all.ensures ∙ t))
