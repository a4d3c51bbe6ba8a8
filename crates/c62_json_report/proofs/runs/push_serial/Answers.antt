use Rattle.std.proofs.Common.{append_assoc, ◌∙◌}
use Rattle.c62_json_report.specs.Runs.{serial_members}
use Rattle.c62_json_report.proofs.runs.push_serial.Goals as goal

pub returns : goal.returns
unfolding serial_members
returns c = (
  simp (
    c.in_ok-push_serial_profile.ensures.0,
    c.in_ok-push_left.ensures.0,
    c.in_ok-push_ended.ensures.0,
    c.in_ok-push_number.ensures.0,
    c.from.ensures,
    append_assoc,
  ),
  c.in_ok-push_serial_profile.ensures.1 ∙ c.in_ok-push_left.ensures.1 ∙ c.in_ok-push_ended.ensures.1
      ∙ c.in_ok-push_number.ensures.1,
)
