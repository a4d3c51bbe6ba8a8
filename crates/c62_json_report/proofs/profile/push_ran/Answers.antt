use Rattle.std.proofs.Common.{append_assoc, ◌∙◌}
use Rattle.c62_json_report.specs.Profile.{ran}
use Rattle.c62_json_report.proofs.profile.push_ran.Goals as goal

pub returns : goal.returns
unfolding ran
returns c = (
  simp (
    c.in_ok-push_number-4.ensures.0,
    c.in_ok-push_number-3.ensures.0,
    c.in_ok-push_number-2.ensures.0,
    c.in_ok-push_number.ensures.0,
    c.thousandths.ensures,
    c.from.ensures,
    c.from-2.ensures,
    c.from-3.ensures,
    c.from-4.ensures,
    append_assoc,
  ),
  c.in_ok-push_number-4.ensures.1 ∙ c.in_ok-push_number-3.ensures.1 ∙ c.in_ok-push_number-2.ensures.1
      ∙ c.in_ok-push_number.ensures.1,
)
