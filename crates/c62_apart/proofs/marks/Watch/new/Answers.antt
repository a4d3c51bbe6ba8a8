use Rattle.c62_apart.proofs.Watching.{watched_none}
use Rattle.c62_apart.proofs.marks.Watch.new.Goals as goal

pub returns : goal.returns
returns c =
    watched_none c.in_ok-vec.field-0.items c.new.result.items (c.in_ok-vec.ensures.items_if_clones_equal (λ y h. h))
    c.new.ensures.items
