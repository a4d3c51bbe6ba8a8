use Rattle.std.proofs.Common.{arith}
use Rattle.c62_grid.proofs.Pauses.{found_behind}
use Rattle.c62_grid.proofs.grid.next_issue.Goals as goal

pub returns-in-Some-clause-behind : goal.returns-in-Some-clause-behind
returns-in-Some-clause-behind c = let behind = found_behind c.args.cycle c.args.placed.now c.in-Some.next
    c.in-Some.ensures in omega (arith, behind, c.from.ensures)
