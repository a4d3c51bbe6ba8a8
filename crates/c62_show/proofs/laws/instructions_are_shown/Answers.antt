use Rattle.c62_show.proofs.Cells.{all_shown}
use Rattle.c62_show.proofs.Printed.{all_printed}
use Rattle.c62_show.proofs.laws.instructions_are_shown.Goals as goal

pub returns-clause-found : goal.returns-clause-found
returns-clause-found c = all_shown

pub returns-clause-printed : goal.returns-clause-printed
returns-clause-printed c = all_printed
