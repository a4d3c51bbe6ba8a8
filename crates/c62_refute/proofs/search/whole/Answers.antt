use Rattle.std.proofs.Common.{◌+◌, ℕ, [], ◌∷◌, length, sym, ap, ◌∙◌, subst}
use Rattle.std.proofs.lemmas.List.{length-append}
use Rattle.c62_depend.specs.Plan.{insns_of}
use Rattle.c62_refute.specs.declared.window.Window.{Window as Cycles}
use Rattle.c62_refute.specs.Window.{HoldAll}
use Rattle.c62_refute.proofs.Holding.{hold_one}
use Rattle.c62_refute.proofs.search.whole.Goals as goal

pub loop-i-preserved : goal.loop-i-preserved
loop-i-preserved c =
    let old = c.loop-i.windows.items in
    let known = c.loop-i.invariant in
    let new = c.within.result in
    let pushed = c.in_ok-push.ensures.items in
    record {
      sized = ap (length {A = Cycles}) pushed ∙ (length-append old (new ∷ []) ∙ ap (λ (n : ℕ). n + 1) known.sized);
      hold = subst (HoldAll (insns_of c.args.plan.now) c.args.most) (sym pushed)
          (hold_one (insns_of c.args.plan.now) c.args.most old c.insn.result new known.hold
          (rw known.sized c.insn.ensures)
          (rw c.delay.ensures at c.within.ensures));
    }
