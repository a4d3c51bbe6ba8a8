use Rattle.c62_drawing.proofs.Reading.{listing_none}
use Rattle.c62_drawing.proofs.read.listed.Goals as goal

pub returns : goal.returns
returns c = record {
  found = listing_none c.args.isa c.args.text.now c.in-Err.fault c.in_default.not-Memory c.in-Err.ensures.read;
  closed = tt;
}
