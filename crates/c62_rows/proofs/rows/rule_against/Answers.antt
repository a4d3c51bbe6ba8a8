use Rattle.c62_rows.proofs.Ruled.{rule_told}
use Rattle.c62_rows.proofs.rows.rule_against.Goals as goal

pub returns : goal.returns
returns c =
    rule_told c.taken.result c.of.result c.rule_against.result c.args.placed.now c.args.above.now c.requires.cycle
    c.taken.ensures c.of.ensures
    c.rule_against.ensures
