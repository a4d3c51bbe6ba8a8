use Rattle.std.proofs.Common.{rules, List, ◌≡◌, ◌∙◌, ◌<◌, length, get_or, sym, ap, subst}
use Rattle.std.specs.Prelude.{All}
use Rattle.std.proofs.lemmas.List.Elements.{All-push}
use Rattle.c62_packet.specs.declared.placed.Placed.{Placed}
use Rattle.c62_loop_match.specs.Reading.{unlined}
use Rattle.c62_pipeline.specs.Lined.{IsLined}
use Rattle.c62_pipeline.proofs.Lining.{image_next}
use Rattle.c62_pipeline.proofs.origin.lined_row.Goals as goal

pub loop-place-preserved : goal.loop-place-preserved
loop-place-preserved c =
    let at = c.loop-place in
    let blocks = c.args.blocks.now in
    let insns = c.args.row.now.insns.items in
    let placed = c.index.result.now in
    let inside : at.place < length insns = search rules in
    let here : placed ≡ get_or insns at.place placed = search rules in (
      image_next unlined unlined insns at.insns.items c.push.new.self.items at.place placed c.lined_insn.result
          at.invariant.0 inside (ap unlined (sym here) ∙ sym c.lined_insn.ensures.same) c.in_ok-push.ensures.items,
      subst (λ (all : List Placed). All (IsLined blocks) all) (sym c.in_ok-push.ensures.items)
          (All-push (IsLined blocks) at.insns.items c.lined_insn.result at.invariant.1 c.lined_insn.ensures.lined),
    )
