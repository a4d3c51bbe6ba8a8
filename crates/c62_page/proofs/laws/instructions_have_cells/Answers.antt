use Rattle.c62_page.proofs.Shown.{are_all_shown, have_all_bars}
use Rattle.c62_page.proofs.laws.instructions_have_cells.Goals as goal

pub returns-clause-cells : goal.returns-clause-cells
returns-clause-cells c = are_all_shown

pub returns-clause-bars : goal.returns-clause-bars
returns-clause-bars c = have_all_bars
