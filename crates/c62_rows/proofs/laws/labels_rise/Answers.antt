use Rattle.c62_rows.proofs.Rising.{labels_rise}
use Rattle.c62_rows.proofs.laws.labels_rise.Goals as goal

pub returns : goal.returns
returns c = labels_rise
