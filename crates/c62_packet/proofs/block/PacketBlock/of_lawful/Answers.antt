use Rattle.std.proofs.Common.{arith, ◌≡◌, List, ap, ◌∙◌}
use Rattle.c62_rules.specs.Length.{length_of}
use Rattle.c62_packet.specs.declared.placed.Placed.{Placed}
use Rattle.c62_packet.specs.Packed.{issues_of}
use Rattle.c62_packet.proofs.block.PacketBlock.of_lawful.Goals as goal

pub overflow_cast-cycles : goal.overflow_cast-cycles
overflow_cast-cycles c =
    let own : c.cycles_of-cycles.result ≡ length_of (issues_of c.args.placed.items) =
    c.cycles_of-cycles.ensures ∙ ap (λ (ps : List Placed). length_of (issues_of ps)) c.deref.ensures.value in
    omega (arith, own, c.requires.short)
