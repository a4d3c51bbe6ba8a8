use Rattle.std.proofs.Common.{◌≡◌, true, List, sym, subst, arith}
use Rattle.c62_read.specs.Block.{Serial}
use Rattle.c62_packet.specs.Packed.{Packed}
use Rattle.c62_packet.specs.Packets.{is_closed}
use Rattle.c62_answer.specs.Schedule.{AreScheduled}
use Rattle.c62_answer.proofs.Schedules.{as_many, closed}
use Rattle.c62_answer.proofs.schedule.packets_by_workers.Goals as goal

pub gathered-requires : goal.gathered-requires
gathered-requires g c =
    let blocks = c.into_blocks-blocks.ensures in
    omega (arith, blocks.few, as_many c.args.packing _ _ c.in_ok-made.ensures)

pub returns-clause-packed : goal.returns-clause-packed
returns-clause-packed g c =
    let same = c.into_blocks-blocks.ensures.same in
    let gathered = c.in_ok-gathered.ensures in
    subst (λ (packets : List Packed). AreScheduled c.args.packing c.args.program packets) (sym gathered)
    (subst (λ (blocks : List Serial). AreScheduled c.args.packing blocks c.in_ok-made.made.items) same
    c.in_ok-made.ensures)

pub returns-clause-closed : goal.returns-clause-closed
returns-clause-closed g c =
    let blocks = c.into_blocks-blocks in
    let made : List Packed = c.in_ok-made.made.items in
    subst (λ (packets : List Packed). is_closed packets ≡ true) (sym c.in_ok-gathered.ensures)
    (closed c.args.packing blocks.result.items made c.in_ok-made.ensures blocks.ensures.sound)
