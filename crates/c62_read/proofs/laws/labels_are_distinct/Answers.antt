use Rattle.c62_read.proofs.ProgramLaws.{has_its_labels}
use Rattle.c62_read.proofs.laws.labels_are_distinct.Goals as goal

pub returns : goal.returns
returns c = has_its_labels
