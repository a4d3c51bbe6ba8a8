use Rattle.std.proofs.Common.{◌<◌, length}
use Rattle.std.specs.Prelude.{is_ok}
use Rattle.c62_packet.proofs.PacketsLemmas.{pushed-blocks}
use Rattle.c62_packet.proofs.packets.Packets.push.Goals as goal
use Rattle.c62_read.specs.declared.limits.TheConstants.{MOST_BLOCKS}

pub invariant_of-self : goal.invariant_of-self
invariant_of-self c =
    let few : length c.self.inside.blocks.items < MOST_BLOCKS = rw c.self.view_is c.requires in
    pushed-blocks (is_ok c.push.result) c.self.inside.blocks.items c.push.new.self.items c.args.block few
    c.self.invariant c.length.ensures.sound c.push.ensures.items
