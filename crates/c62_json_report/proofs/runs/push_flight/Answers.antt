use Rattle.std.proofs.Common.{append_assoc, ◌∙◌}
use Rattle.c62_json_report.specs.Runs.{flight_members}
use Rattle.c62_json_report.proofs.runs.push_flight.Goals as goal

pub returns : goal.returns
unfolding flight_members
returns c = (
  simp (
    c.in_ok-push_flight_profile.ensures.0,
    c.in_ok-push_left.ensures.0,
    c.in_ok-push_stopped.ensures.0,
    c.in_ok-push_number.ensures.0,
    append_assoc,
  ),
  c.in_ok-push_flight_profile.ensures.1 ∙ c.in_ok-push_left.ensures.1 ∙ c.in_ok-push_stopped.ensures.1
      ∙ c.in_ok-push_number.ensures.1,
)
