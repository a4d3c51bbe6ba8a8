use Rattle.std.proofs.Common.{append_assoc, ◌∙◌}
use Rattle.c62_json_report.proofs.exit.push_branches.Goals as goal

pub returns : goal.returns
returns c = (
  simp (c.in_ok-close_object.ensures.0, c.in_ok-push_lines.ensures.0, c.in_ok-begin.ensures.0, append_assoc),
  c.in_ok-close_object.ensures.1 ∙ c.in_ok-push_lines.ensures.1 ∙ c.in_ok-begin.ensures.1,
)
