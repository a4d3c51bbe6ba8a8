use Rattle.c62_json_lint.proofs.Same.{faulty_is_refused, tell_the_lines}
use Rattle.c62_json_lint.proofs.laws.documents_tell_the_lines.Goals as goal

pub returns-clause-same : goal.returns-clause-same
returns-clause-same c = tell_the_lines

pub returns-clause-refused : goal.returns-clause-refused
returns-clause-refused c = faulty_is_refused
