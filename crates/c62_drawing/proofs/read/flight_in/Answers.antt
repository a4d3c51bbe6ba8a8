use Rattle.std.proofs.Common.{List, ℕ, Some, refl, subst}
use Rattle.std.specs.Prelude.{IfOk}
use Rattle.std.proofs.lemmas.Result.{IfOk-weaker}
use Rattle.c62_drawing.specs.Found.{FindsTaken}
use Rattle.c62_drawing.proofs.Reading.{taken_asked}
use Rattle.c62_drawing.proofs.read.flight_in.Goals as goal

pub returns-in-Some : goal.returns-in-Some
returns-in-Some c =
    IfOk-weaker c.taken_in.result _ _
    (λ found finds. taken_asked c.args.isa c.args.start.now.alone _ c.in-Some.name.items c.args.text.now found
    c.if-start.true
    (rw c.in-Some.is refl) finds)
    (subst (λ (name : List ℕ). IfOk c.taken_in.result (FindsTaken c.args.isa name (Some name) c.args.text.now))
    c.deref.ensures.value c.taken_in.ensures)
