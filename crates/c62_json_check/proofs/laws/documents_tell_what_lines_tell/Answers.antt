use Rattle.c62_json_check.proofs.Alike.{tells_the_same}
use Rattle.c62_json_check.proofs.laws.documents_tell_what_lines_tell.Goals as goal

pub returns : goal.returns
returns c = tells_the_same
