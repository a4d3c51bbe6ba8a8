use Rattle.std.proofs.Common.{◌∙◌, ap, map}
use Rattle.c62_loop_match.specs.declared.parts.Stage.{Stage as StageRead}
use Rattle.c62_loop_match.specs.Parts.{stage_of}
use Rattle.c62_loop_match.specs.Reading.{unlined, stage_unlined}
use Rattle.c62_loop_match.proofs.Plain.{plain_schedule}
use Rattle.c62_loop_match.proofs.unlined.schedule_unlined.Goals as goal

pub returns : goal.returns
returns c =
    plain_schedule c.args.schedule.now c.in_ok-all_unlined.field-0.items c.in_ok-all_unlined-2.field-0.items
    (map stage_of c.in_ok-stages_unlined.field-0.items)
    (c.in_ok-all_unlined.ensures ∙ ap (map unlined) c.deref.ensures.value)
    (c.in_ok-stages_unlined.ensures
    ∙ ap (map (λ (stage : StageRead). stage_unlined (stage_of stage))) c.deref-2.ensures.value)
    (c.in_ok-all_unlined-2.ensures ∙ ap (map unlined) c.deref-3.ensures.value)
