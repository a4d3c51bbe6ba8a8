use Rattle.std.proofs.Common.{refl, ap, ◌∙◌}
use Rattle.std.specs.Prelude.{slice_set}
use Rattle.std.specs.Option.{option_to_list}
use Rattle.std.proofs.lemmas.Result.{IfOk-weaker}
use Rattle.c62_apart.specs.Met.{meeting_with, with_meetings}
use Rattle.c62_apart.proofs.Watching.{sees_one}
use Rattle.c62_apart.proofs.marks.Watch.see.Goals as goal

pub returns-clause-sees : goal.returns-clause-sees
returns-clause-sees c = IfOk-weaker c.add_met.result _ _
    (λ _ adds. sees_one c.args.touch c.args.touch.byte c.args.self.now.marks.items
    (slice_set c.args.self.now.marks.items c.args.touch.byte c.with.result) c.args.self.now.met.items
    c.add_met.new.met.items
    c.index.result.now c.said_in-mark.result refl c.requires.byte c.requires.size c.index.ensures c.said_in-mark.ensures
    (ap (λ m. slice_set c.args.self.now.marks.items c.args.touch.byte m) c.with.ensures)
    (adds ∙ ap (λ m. with_meetings c.args.self.now.met.items (option_to_list m))
    (c.meeting_with-meeting.ensures ∙ ap (λ o. meeting_with o c.args.touch) c.other_than.ensures)))
    c.add_met.ensures
