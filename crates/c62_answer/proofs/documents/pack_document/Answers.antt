use Rattle.std.proofs.Common.{refl}
use Rattle.c62_listing.specs.Listing.{listing}
use Rattle.c62_answer.proofs.documents.pack_document.Goals as goal

pub returns : goal.returns
returns g c = (
  listing c.in_ok-packets.packets,
  record {
    program = c.in_ok-program.program;
    says = c.in_ok-program.ensures;
    packets = c.in_ok-packets.packets;
    packed = c.in_ok-packets.ensures.packed;
    listed = refl;
  },
  c.in_ok-packets_document.ensures,
)
