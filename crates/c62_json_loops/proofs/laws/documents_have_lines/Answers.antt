use Rattle.c62_json_loops.proofs.Lined.{have_lines}
use Rattle.c62_json_loops.proofs.laws.documents_have_lines.Goals as goal

pub returns : goal.returns
returns c = have_lines
