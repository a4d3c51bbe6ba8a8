use Rattle.std.proofs.Common.{List, ℕ, Some, refl, rules, subst}
use Rattle.std.specs.Prelude.{IfOk}
use Rattle.std.proofs.lemmas.Result.{IfOk-weaker}
use Rattle.c62_teach.specs.Faulted.{TellsTaken}
use Rattle.c62_teach.proofs.Asked.{taken_asked}
use Rattle.c62_teach.proofs.faults.flying_told.Goals as goal

pub returns-in-Some : goal.returns-in-Some
returns-in-Some c =
    IfOk-weaker c.taken_told.result _ _
    (λ more tells. taken_asked c.args.isa c.args.start.now.alone _ c.in-Some.name.items c.args.start.now.settings.items
    c.args.start.now.course c.args.text.now more.items c.if-start.true (rw c.in-Some.is refl) (search rules) tells)
    (subst (λ (name : List ℕ). IfOk c.taken_told.result (λ more. TellsTaken c.args.isa name (Some name)
    c.args.start.now.settings.items c.args.start.now.course c.args.text.now more.items)) c.deref.ensures.value
    c.taken_told.ensures)
