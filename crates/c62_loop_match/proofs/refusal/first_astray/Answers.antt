use Rattle.std.proofs.Common.{refl, sym, subst}
use Rattle.std.specs.Prelude.{Contains}
use Rattle.std.proofs.lemmas.List.Elements.{Contains-get_or}
use Rattle.c62_loop_match.proofs.refusal.first_astray.Goals as goal

pub returns-then-is_astray : goal.returns-then-is_astray
returns-then-is_astray c = record {
  branch = c.each-item.result;
  among = subst (λ p. Contains c.args.placed.now p) (sym c.each-item.is)
      (Contains-get_or c.args.placed.now c.loop-each.each-index c.each-item.result c.loop-each-test.true);
  goes = c.if-is_astray.ensures;
  line_is = refl;
}
