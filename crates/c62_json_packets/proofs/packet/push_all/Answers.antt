use Rattle.std.proofs.Common.{◌∙◌}
use Rattle.c62_grid.proofs.Drawing.{one_more}
use Rattle.c62_json_packets.specs.Packets.{name_among, packet}
use Rattle.c62_json_packets.proofs.packet.push_all.Goals as goal

pub loop-cycle-preserved : goal.loop-cycle-preserved
loop-cycle-preserved c =
    let at = c.loop-cycle in
    let added = c.in_ok-push_packet.ensures in (
      one_more (packet (name_among c.args.labels.now) c.args.placed.now) at.cycle c.args.length at.out.tokens
          c.push_packet.new.out.tokens _
          c.loop-cycle-test.true at.invariant.0 added.0,
      added.1 ∙ at.invariant.1,
    )
