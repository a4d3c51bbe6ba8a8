use Rattle.std.proofs.Common.{List, ℕ, Some, subst}
use Rattle.std.specs.Prelude.{IfOk}
use Rattle.std.proofs.lemmas.Result.{IfOk-weaker}
use Rattle.c62_reach.specs.declared.fault.ReachFault.{ReachFault}
use Rattle.c62_reach.specs.Taken.{Lacks}
use Rattle.c62_drawing.specs.Found.{FindsCode}
use Rattle.c62_drawing.proofs.Reading.{taken_none, taken_some}
use Rattle.c62_drawing.proofs.read.taken_in.Goals as goal

pub returns-in-Ok : goal.returns-in-Ok
returns-in-Ok c =
    IfOk-weaker c.code_in.result _ _
    (λ found finds. taken_some c.args.isa c.args.name.now
    (Some c.args.name.now) c.args.text.now c.in-Ok.taken.items found
    c.in-Ok.ensures finds)
    (subst (λ (text : List ℕ). IfOk c.code_in.result (FindsCode c.args.isa (Some c.args.name.now) text))
    c.deref.ensures.value
    c.code_in.ensures)

pub returns-in-Err-From : goal.returns-in-Err-From
returns-in-Err-From c = taken_none c.args.isa c.args.name.now (Some c.args.name.now) c.args.text.now
    (subst (λ (fault : ReachFault). Lacks c.args.isa c.args.name.now c.args.text.now fault) c.in-Err-From.field-0-is
    c.in-Err-From.ensures)
