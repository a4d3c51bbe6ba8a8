use Rattle.std.proofs.Common.{◌≡◌, ◌∙◌, List, map, sym, ap, subst}
use Rattle.std.specs.Prelude.{IsPermutation}
use Rattle.c62_read.specs.Block.{Serial}
use Rattle.c62_packet.specs.declared.placed.Placed.{Placed}
use Rattle.c62_unpack.specs.Unpacked.{entry_of}
use Rattle.c62_unpack.proofs.Unpacking.{is_unpacked}
use Rattle.c62_unpack.proofs.block.unpack.Goals as goal

pub returns : goal.returns
returns c =
    let made = c.in_ok-plan.ensures ∙ c.new.ensures in
    is_unpacked c.args.packets.now c.in_ok-plan.plan c.in_ok-placed.placed.items c.in_ok-verdict.verdict
    (ap (λ (b : Serial). b.label) made ∙ (c.copied.ensures ∙ c.label.ensures))
    (ap (λ (b : Serial). b.insns) made
    ∙ (c.in_ok-entries.ensures ∙ ap (λ (xs : List Placed). map entry_of xs) c.deref.ensures.value))
    (subst (λ (xs : List Placed). IsPermutation xs c.in_ok-placed.placed.items) c.placed.ensures.same
    c.in_ok-placed.ensures)
    c.in_ok-verdict.ensures (sym c.is_same.ensures.value ∙ c.if-not-is_same.false)
