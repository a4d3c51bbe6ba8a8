use Rattle.std.proofs.Common.{List, ℕ, Some, subst}
use Rattle.std.specs.Prelude.{IfOk}
use Rattle.std.proofs.lemmas.Result.{IfOk-weaker}
use Rattle.c62_reach.specs.declared.fault.ReachFault.{ReachFault}
use Rattle.c62_reach.specs.Taken.{Lacks}
use Rattle.c62_teach.specs.Faulted.{TellsCode}
use Rattle.c62_teach.proofs.Strict.{taken_none, taken_some}
use Rattle.c62_teach.proofs.faults.taken_told.Goals as goal

pub returns-in-Ok : goal.returns-in-Ok
returns-in-Ok c =
    IfOk-weaker c.code_told.result _ _
    (λ more tells. taken_some c.args.isa c.args.name.now (Some c.args.name.now) c.args.start.now.settings.items
    c.args.start.now.course c.args.text.now c.in-Ok.taken.items more.items c.in-Ok.ensures tells)
    (subst (λ (text : List ℕ). IfOk c.code_told.result (λ more. TellsCode c.args.isa (Some c.args.name.now)
    c.args.start.now.settings.items c.args.start.now.course text more.items)) c.deref.ensures.value
    c.code_told.ensures)

pub returns-in-Err-From : goal.returns-in-Err-From
returns-in-Err-From c = taken_none c.args.isa c.args.name.now (Some c.args.name.now) c.args.start.now.settings.items
    c.args.start.now.course c.args.text.now c.new.result.items
    (subst (λ (fault : ReachFault). Lacks c.args.isa c.args.name.now c.args.text.now fault) c.in-Err-From.field-0-is
    c.in-Err-From.ensures) c.new.ensures.items
