use Rattle.std.proofs.Common.{◌∙◌, get_or}
use Rattle.c62_op.specs.declared.register.Letter.TheVariants.{L}
use Rattle.c62_op.specs.declared.register.Side.TheVariants.{A as OnA}
use Rattle.c62_sheet.specs.declared.entry.Entry.{Entry}
use Rattle.c62_sheet.specs.declared.entry.Entry.TheVariants.{Place}
use Rattle.c62_sheet.specs.declared.entry.Who.TheVariants.{A}
use Rattle.c62_view.proofs.Follows.{same_plan, follows}
use Rattle.c62_view.proofs.version.follow.Goals as goal

-- what a place past the end reads as
first_of_all : Entry
first_of_all = Place 0 (record { cycle = 0; unit = record { letter = L; side = OnA } }) A

pub loop-k-preserved : goal.loop-k-preserved
unfolding first_of_all
loop-k-preserved c =
    let es = c.args.entries.now in
    let old = c.loop-k.sheet in
    let new = c.apply.new.self in
    let inv = c.loop-k.invariant in
    record {
      plan = same_plan c.apply.result old new (get_or es c.loop-k.k first_of_all) c.apply.ensures.done
          c.apply.ensures.refused ∙ inv.plan;
      spots = follows c.apply.result c.args.sheet.now.plan c.args.sheet.now.spots old new es c.loop-k.k first_of_all
          c.loop-k-test.true inv.plan inv.spots c.apply.ensures.done c.apply.ensures.legal;
    }
