use Rattle.std.proofs.Common.{◌≡◌, ◌++◌, drop}
use Rattle.std.specs.List.{flat_map}
use Rattle.c62_markup.specs.Page.{page}
use Rattle.c62_page.specs.Causes.{why_row}
use Rattle.c62_page.proofs.causes.push_rows.Given as goal

abbrev pub invariant-loop-why : goal.invariant-loop-why
invariant-loop-why l =
    l.out.items ++ page (flat_map why_row (drop l.why-index l.whys)) ≡ l.fn.out.items ++ page (flat_map why_row l.whys)
