use Rattle.c62_line.proofs.WrittenLines.{label_back}
use Rattle.c62_line.proofs.laws.labels_read_back.Goals as goal

pub returns : goal.returns
returns c = label_back
