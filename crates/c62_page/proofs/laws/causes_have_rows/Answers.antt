use Rattle.c62_page.proofs.Shown.{have_all_causes}
use Rattle.c62_page.proofs.laws.causes_have_rows.Goals as goal

pub returns : goal.returns
returns c = have_all_causes
