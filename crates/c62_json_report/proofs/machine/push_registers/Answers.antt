use Rattle.std.proofs.Common.{append_assoc, ◌∙◌}
use Rattle.c62_json_report.specs.Machine.{registers}
use Rattle.c62_json_report.proofs.machine.push_registers.Goals as goal

pub returns : goal.returns
unfolding registers
returns c = (
  simp (
    c.in_ok-close_object.ensures.0,
    c.in_ok-push_file-2.ensures.0,
    c.in_ok-push_file.ensures.0,
    c.in_ok-open_object.ensures.0,
    c.in_ok-push_name.ensures.0,
    append_assoc,
  ),
  c.in_ok-close_object.ensures.1 ∙ c.in_ok-push_file-2.ensures.1 ∙ c.in_ok-push_file.ensures.1
      ∙ c.in_ok-open_object.ensures.1 ∙ c.in_ok-push_name.ensures.1,
)
