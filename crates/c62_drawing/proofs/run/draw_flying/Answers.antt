use Rattle.std.proofs.Common.{subst, List, ℕ, Option}
use Rattle.std.specs.Prelude.{option_map}
use Rattle.c62_drawing.specs.Found.{FindsFlight}
use Rattle.c62_drawing.proofs.Tracing.{flying_taken}
use Rattle.c62_drawing.proofs.run.draw_flying.Goals as goal

pub returns-in-Ok-Some : goal.returns-in-Ok-Some
returns-in-Ok-Some g c =
    let from : Option (List ℕ) = option_map (λ name. name.items) c.args.start.now.from in
    flying_taken c.args.isa c.args.drawn c.args.window c.args.start.now.alone from c.args.start.now.course
    c.args.start.now.settings.items c.args.text.now c.in-Ok-Some.begun c.draw_flight-stream.result.1 c.of_taken.result
    _ _
    (subst (λ found. FindsFlight c.args.isa c.args.start.now.alone from c.args.text.now found) c.in-Ok-Some.field-0-is
    c.in-Ok-Some.ensures)
    c.draw_flight-stream.ensures c.of_taken.ensures
