use Rattle.std.proofs.Common.{append_assoc, ◌∙◌}
use Rattle.c62_json_report.specs.Profile.{told}
use Rattle.c62_json_report.proofs.flights.push_told.Goals as goal

pub returns : goal.returns
unfolding told
returns c = (
  simp (
    c.in_ok-push_number-3.ensures.0,
    c.in_ok-push_number-2.ensures.0,
    c.in_ok-push_number.ensures.0,
    c.thousandths.ensures,
    c.cycles_of-cycles.ensures,
    c.runs_of.ensures,
    append_assoc,
  ),
  c.in_ok-push_number-3.ensures.1 ∙ c.in_ok-push_number-2.ensures.1 ∙ c.in_ok-push_number.ensures.1,
)
