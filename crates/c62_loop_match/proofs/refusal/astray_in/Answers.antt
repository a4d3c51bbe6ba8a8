use Rattle.std.proofs.Common.{subst}
use Rattle.std.specs.Prelude.{IfSome}
use Rattle.c62_loop_match.specs.Astray.{HoldsAstray}
use Rattle.c62_loop_match.proofs.Astrays.{left, right}
use Rattle.c62_loop_match.proofs.refusal.astray_in.Goals as goal

pub returns-in-Some : goal.returns-in-Some
returns-in-Some c =
    left c.args.rule c.args.begin c.args.label c.args.control.now.early.items c.args.control.now.kernel.items
    c.in-Some.line
    (subst (λ xs. HoldsAstray c.args.rule c.args.begin c.args.label xs c.in-Some.line) c.deref.ensures.value
    c.in-Some.ensures)

pub returns-in-None : goal.returns-in-None
returns-in-None c =
    right c.args.rule c.args.begin c.args.label c.args.control.now.early.items c.args.control.now.kernel.items
    c.first_astray-in-None.result
    (subst (λ xs. IfSome c.first_astray-in-None.result (HoldsAstray c.args.rule c.args.begin c.args.label xs))
    c.deref-in-None.ensures.value c.first_astray-in-None.ensures)
