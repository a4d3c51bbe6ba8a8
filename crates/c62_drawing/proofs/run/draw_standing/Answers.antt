use Rattle.std.proofs.Common.{subst}
use Rattle.c62_drawing.specs.Found.{FindsPackets}
use Rattle.c62_drawing.proofs.Tracing.{standing_taken}
use Rattle.c62_drawing.proofs.run.draw_standing.Goals as goal

pub returns-in-Ok-Some : goal.returns-in-Ok-Some
returns-in-Ok-Some g c =
    standing_taken c.args.isa c.args.drawn c.args.window c.args.form c.args.start.now.course
    c.args.start.now.settings.items c.args.text.now c.in-Ok-Some.packets c.draw_packets-stream.result.1
    c.of_taken.result _ _
    (subst (λ found. FindsPackets c.args.isa c.args.form c.args.text.now found) c.in-Ok-Some.field-0-is
    c.in-Ok-Some.ensures.found)
    c.draw_packets-stream.ensures c.of_taken.ensures
