use Rattle.std.proofs.Common.{inr}
use Rattle.c62_view.proofs.viewer.pick_on.Goals as goal

pub returns-in_default-least : goal.returns-in_default-least
returns-in_default-least c =
    inr (
      c.in-Some.number,
      rw (c.sheet-sheet.ensures.plan, c.sheet-sheet.ensures.spots c.requires) at c.in-Some.ensures,
      rw (c.sheet-sheet.ensures.plan, c.sheet-sheet.ensures.spots c.requires) at c.in_default-least.ensures,
    )
