use Rattle.std.proofs.Common.{arith, refl}
use Rattle.c62_why.proofs.Holding.{read_at}
use Rattle.c62_why.proofs.why.why_of.Goals as goal

pub returns : goal.returns
returns c = record {
  one = c.index-placed-from.result;
  is_one = read_at c.args.placed.now c.from.result c.args.j c.index-placed-from.result c.from.ensures
      (omega (arith, c.requires.within, c.requires.placed))
      c.index-placed-from.is;
  line = refl;
  cycle = refl;
  slack = c.slack_of.ensures;
  cause = c.in_ok-cause.ensures;
}
