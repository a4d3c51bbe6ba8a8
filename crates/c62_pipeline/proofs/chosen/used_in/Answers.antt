use Rattle.std.proofs.Common.{◌≡◌, ◌∙◌, Some, refl, sym, ap}
use Rattle.std.proofs.lemmas.Option.{slice_get-get_or}
use Rattle.c62_pipeline.proofs.chosen.used_in.Goals as goal

pub returns-then-not-counts : goal.returns-then-not-counts
returns-then-not-counts c =
    let entry = c.index-entries-place.result in
    record {
      place = c.loop-place.place;
      entry = entry;
      stands = slice_get-get_or c.args.entries.now c.loop-place.place entry c.loop-place-test.true
          ∙ ap Some (sym c.index-entries-place.is);
      uses = sym c.counts.ensures ∙ c.if-not-counts.true;
      told = refl;
    }
