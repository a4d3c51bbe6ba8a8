use Rattle.std.proofs.Common.{refl, subst}
use Rattle.std.specs.List.{AllZip}
use Rattle.c62_standing.specs.declared.standing.Details.{Details}
use Rattle.c62_standing.specs.Standing.{IsStanding}
use Rattle.c62_answer.specs.Drawing.{drawing}
use Rattle.c62_answer.proofs.documents.show_packets_document.Goals as goal

pub returns : goal.returns
returns c = let shown = c.in_ok-shown.shown.items in (
  drawing c.args.showing c.args.text.now shown,
  record {
    packets = c.in_ok-packets.packets;
    adopted = c.in_ok-packets.ensures.packets;
    drawn = record {
      shown = shown;
      standing = subst (λ (details : Details). AllZip (IsStanding details) c.in_ok-packets.packets shown)
          c.details_of.ensures c.in_ok-shown.ensures;
      drawn = refl;
    };
  },
  rw c.deref.ensures.value at c.in_ok-shown_document.ensures,
)
