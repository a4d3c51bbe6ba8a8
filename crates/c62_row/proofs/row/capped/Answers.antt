use Rattle.c62_row.proofs.Fields.{capped-field}
use Rattle.c62_row.proofs.row.capped.Goals as goal

pub returns : goal.returns
returns c = λ j low. capped-field c.args.word j low
