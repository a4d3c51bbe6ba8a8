use Rattle.std.proofs.Common.{map, subst}
use Rattle.std.proofs.lemmas.Bool.{OnTrue_at, OnTrue_from}
use Rattle.c62_meaning.specs.Cut.{moved}
use Rattle.c62_loop.specs.Whole.{AreInTurn, StandInTurn}
use Rattle.c62_loop_match.specs.Parts.{control_of}
use Rattle.c62_loop_match.specs.Steering.{ComeInTurn}
use Rattle.c62_loop_match.proofs.steering.come_in_turn.Goals as goal

pub returns : goal.returns
returns c =
    let counter = c.args.rule.counter in
    OnTrue_from c.are_in_turn-2.result
    (ComeInTurn c.args.rule.counter c.args.rule.interval (control_of c.args.control.now)) (λ t. record {
      early = subst (λ ps. StandInTurn counter ps) c.deref.ensures.value c.if-not-stand_in_turn.ensures;
      kernel = subst (λ ps. StandInTurn counter ps) c.deref-2.ensures.value c.if-not-stand_in_turn-2.ensures;
      seam = subst (λ ps. AreInTurn counter ps (map (moved 0) c.args.control.now.kernel.items)) c.deref-3.ensures.value
          (subst (λ qs. AreInTurn counter c.deref-3.result.now (map (moved 0) qs)) c.deref-4.ensures.value
          c.if-not-are_in_turn.ensures);
      next = subst (λ ps. AreInTurn counter ps (map (moved c.args.rule.interval) c.args.control.now.kernel.items))
          c.deref-5.ensures.value
          (subst (λ qs. AreInTurn counter c.deref-5.result.now (map (moved c.args.rule.interval) qs))
          c.deref-6.ensures.value (OnTrue_at t c.are_in_turn-2.ensures));
    })
