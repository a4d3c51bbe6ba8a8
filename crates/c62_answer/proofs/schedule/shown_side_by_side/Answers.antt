use Rattle.std.proofs.Common.{◌∙◌}
use Rattle.c62_answer.specs.Schedule.{IsShown}
use Rattle.c62_answer.proofs.SideBySide.{all_shown, gathered, where_ok}
use Rattle.c62_answer.proofs.schedule.shown_side_by_side.Goals as goal

pub returns : goal.returns
returns g c =
    let came = c.in_ok-collect.ensures in
    let calls = rw (c.map.ensures.base, c.map.ensures.f, c.with_min_len.ensures.base) at came.1 in
    where_ok c.in_ok-collect.field-0 _ _ _ came.2 (λ v made.
    let each = gathered _ (IsShown c.args.showing) c.args.blocks.items calls.0 came.0 v.items made.0 (calls.1
    ∙ c.into_par_iter.ensures) calls.2 made.1 made.2 in
    all_shown c.args.showing c.args.blocks.items v.items each)
