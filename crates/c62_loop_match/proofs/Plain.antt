-- A schedule without lines, put together.
use Rattle.std.proofs.Common.{◌≡◌, ℕ, List, map, sym, ◌∙◌, ap}
use Rattle.std.proofs.lemmas.Simd.{map-map}
use Rattle.c62_packet.specs.declared.placed.Placed.{Placed}
use Rattle.c62_loop.specs.Stage.{Stage, Schedule}
use Rattle.c62_loop_match.specs.declared.parts.Stage.{Stage as StageRead}
use Rattle.c62_loop_match.specs.declared.parts.Schedule.{Schedule as ScheduleRead}
use Rattle.c62_loop_match.specs.Parts.{stage_of, schedule_of}
use Rattle.c62_loop_match.specs.Reading.{unlined, stage_unlined, schedule_unlined}

whole : ℕ → List Placed → List Stage → List Placed → Schedule
whole interval before stages behind = record { before = before; stages = stages; behind = behind; interval = interval }

pub plain_schedule : (schedule : ScheduleRead) (before behind : List Placed) (stages : List Stage)
    → before ≡ map unlined schedule.before.items
    → stages ≡ map (λ (stage : StageRead). stage_unlined (stage_of stage)) schedule.stages.items
    → behind ≡ map unlined schedule.behind.items
    → record { before = before; stages = stages; behind = behind; interval = schedule.interval } ≡ schedule_unlined
    (schedule_of schedule)
unfolding whole
plain_schedule schedule before behind stages is_before are_stages is_behind =
    ap (λ xs. whole schedule.interval xs stages behind) is_before
    ∙ ap (λ xs. whole schedule.interval (map unlined schedule.before.items) xs behind) (are_stages
    ∙ sym (map-map stage_unlined stage_of schedule.stages.items))
    ∙ ap (λ xs. whole schedule.interval (map unlined schedule.before.items)
    (map stage_unlined (map stage_of schedule.stages.items)) xs) is_behind
