use Rattle.std.proofs.Common.{subst}
use Rattle.std.proofs.lemmas.Bool.{OnTrue_at, OnTrue_from}
use Rattle.c62_loop_match.specs.Members.{AreOneSet}
use Rattle.c62_loop_match.specs.Decide.{HoldThese}
use Rattle.c62_loop_match.proofs.decision.hold_these.Goals as goal

pub returns : goal.returns
returns c = OnTrue_from c.are_one_set-3.result
    (HoldThese c.args.layout.now c.args.prolog.now c.args.kernel.now c.args.epilog.now) (λ t. record {
      prolog_is = subst (λ xs. AreOneSet xs c.args.prolog.now) c.deref.ensures.value c.if-not-are_one_set.ensures;
      kernel_is = subst (λ xs. AreOneSet xs c.args.kernel.now) c.deref-2.ensures.value c.if-not-are_one_set-2.ensures;
      epilog_is = subst (λ xs. AreOneSet xs c.args.epilog.now) c.deref-3.ensures.value
          (OnTrue_at t c.are_one_set-3.ensures);
    })
