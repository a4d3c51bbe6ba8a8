use Rattle.std.proofs.Common.{subst}
use Rattle.std.specs.List.{AllZip}
use Rattle.c62_standing.specs.declared.standing.Details.{Details}
use Rattle.c62_standing.specs.Standing.{IsStanding}
use Rattle.c62_answer.proofs.standing.drawn.Goals as goal

pub returns : goal.returns
returns c = record {
  shown = c.in_ok-shown.shown.items;
  standing = subst (λ (details : Details). AllZip (IsStanding details) c.args.packets.now c.in_ok-shown.shown.items)
      c.details_of.ensures c.in_ok-shown.ensures;
  drawn = rw c.deref.ensures.value at c.in_ok-drawn.ensures;
}
