use Rattle.std.proofs.Common.{length, ◌*◌}
use Rattle.c62_board.proofs.Counting.{room_left}
use Rattle.c62_board.proofs.laws.least_without_withdrawals.Goals as goal

pub unreachable-requires : goal.unreachable-requires
unreachable-requires c =
    let room = room_left c.args.board.now c.args.i c.plan.ensures.sound c.requires.only_places c.requires.ready in
    c.in_default.ensures (record { cycle = 5 * length c.args.board.now.journal; unit = room.unit }) room.fits

pub returns-clause-soon : goal.returns-clause-soon
returns-clause-soon c =
    (room_left c.args.board.now c.args.i c.plan.ensures.sound c.requires.only_places c.requires.ready).least
    c.in-Some.spot c.in-Some.ensures
