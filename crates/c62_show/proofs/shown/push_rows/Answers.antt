use Rattle.std.proofs.Common.{◌<◌, arith}
use Rattle.c62_grid.proofs.Pauses.{has_cycle}
use Rattle.c62_show.proofs.shown.push_rows.Goals as goal

pub push-requires-clause-some : goal.push-requires-clause-some
push-requires-clause-some c =
    let some : 0 < c.args.shown.now.packets.cycles = has_cycle c.args.shown.now.packets c.placed-placed.ensures.sound
    c.requires in
    omega (arith, some, c.length.ensures.same, c.from-cycles.ensures)
