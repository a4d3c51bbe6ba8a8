use Rattle.std.proofs.Common.{refl, length}
use Rattle.c62_depend.specs.Height.{height}
use Rattle.c62_depend.specs.Plan.{insns_of}
use Rattle.c62_bound.proofs.Waiting.{counts_confined}
use Rattle.c62_bound.proofs.greatest.need.Goals as goal

pub returns : goal.returns
returns c =
    let block = insns_of c.args.plan.now in
    record {
      is_kind = refl;
      is_side = refl;
      is_tail = c.height-tail.ensures;
      counted = rw (c.count.ensures.count, c.height-tail.ensures)
          (counts_confined block c.args.kind c.args.side (height block c.args.last) (length block) c.args.heights.now
          c.requires.heights);
    }
