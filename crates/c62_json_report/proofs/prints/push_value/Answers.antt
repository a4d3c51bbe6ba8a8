use Rattle.std.proofs.Common.{append_assoc, ◌∙◌}
use Rattle.c62_json_report.proofs.prints.push_value.Goals as goal

pub returns : goal.returns
returns c = (
  simp (
    c.in_ok-close_object.ensures.0,
    c.in_ok-push_value_of.ensures.0,
    c.in_ok-push_name.ensures.0,
    c.in_ok-push_place.ensures.0,
    c.in_ok-open_object.ensures.0,
    c.value_at.ensures,
    append_assoc,
  ),
  c.in_ok-close_object.ensures.1 ∙ c.in_ok-push_value_of.ensures.1 ∙ c.in_ok-push_name.ensures.1
      ∙ c.in_ok-push_place.ensures.1 ∙ c.in_ok-open_object.ensures.1,
)
