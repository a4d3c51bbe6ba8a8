use Rattle.c62_teach.proofs.Strict.{listing_none}
use Rattle.c62_teach.proofs.faults.listing_told.Goals as goal

pub returns : goal.returns
returns c = listing_none c.args.isa c.args.start.now.settings.items c.args.start.now.course c.args.text.now
    c.new.result.items
    c.in-Err.fault c.in_default.not-Memory c.in-Err.ensures.read c.new.ensures.items
