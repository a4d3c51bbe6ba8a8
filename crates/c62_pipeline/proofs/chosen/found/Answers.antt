use Rattle.std.proofs.Common.{refl}
use Rattle.c62_loop_match.specs.Parts.{region_of as region_read}
use Rattle.c62_pipeline.proofs.chosen.found.Goals as goal

pub returns-in-Some : goal.returns-in-Some
returns-in-Some c = c.with.ensures c.args.terms.promise (region_read c.args.region.now) c.args.terms.trips
    c.args.terms.longest refl (rw c.in-Some.is at c.in_ok-made.ensures)
