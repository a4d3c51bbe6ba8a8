use Rattle.std.proofs.Common.{ap, sym, ◌∙◌, take, get_or, refl}
use Rattle.std.proofs.lemmas.List.{take_more}
use Rattle.c62_op.specs.declared.register.Letter.TheVariants.{L}
use Rattle.c62_op.specs.declared.register.Side.TheVariants.{A as OnA}
use Rattle.c62_depend.specs.Plan.{insns_of}
use Rattle.c62_sheet.specs.Lawful.{Placements}
use Rattle.c62_sheet.specs.Journal.{Permits}
use Rattle.c62_sheet.specs.declared.entry.Entry.{Entry}
use Rattle.c62_sheet.specs.declared.entry.Entry.TheVariants.{Place}
use Rattle.c62_sheet.specs.declared.entry.Who.TheVariants.{A}
use Rattle.c62_board.proofs.Journals.{replayed_more, legal_more}
use Rattle.c62_board.proofs.board.play.Goals as goal

-- what a place past the end reads as
first_of_all : Entry
first_of_all = Place 0 (record { cycle = 0; unit = record { letter = L; side = OnA } }) A

pub loop-k-preserved : goal.loop-k-preserved
unfolding first_of_all
loop-k-preserved c =
    let es = c.args.entries.now in
    let more = take_more es c.loop-k.k first_of_all c.loop-k-test.true in
    let e = get_or es c.loop-k.k first_of_all in
    let inv = c.loop-k.invariant in
    let p = c.loop-k.sheet in
    let may : Permits (insns_of c.args.sheet.now.plan) p.spots e = rw (← inv.plan) (c.if-not-apply.ensures.legal.0 refl)
    in
    record {
      legal = rw more (legal_more (insns_of c.args.sheet.now.plan) c.args.sheet.now.spots p.spots (take c.loop-k.k es) e
          inv.spots inv.legal may);
      plan = ap (λ (p : Placements). p.plan) c.if-not-apply.ensures.done ∙ inv.plan;
      spots = rw (more, c.if-not-apply.ensures.done)
          (sym (replayed_more c.args.sheet.now.spots p.spots (take c.loop-k.k es) e inv.spots));
    }
