use Rattle.std.proofs.Common.{ℕ, ◌+◌, ◌≤◌, pos, ◌-ℤ◌, ◌≤ℤ◌, arith}
use Rattle.std.proofs.lemmas.Int.{ints}
use Rattle.c62_loop.specs.Whole.{IsAsked}
use Rattle.c62_loop_match.specs.Begin.{IsMost}
use Rattle.c62_loop_match.proofs.Starts.{comes_behind, free_behind}
use Rattle.c62_loop_match.proofs.begins.early_start.Goals as goal

pub returns-in_default : goal.returns-in_default
returns-in_default c = free_behind c.args.counter c.args.one.now c.args.other.now c.in_default.ensures

pub returns-then-from-has : goal.returns-then-from-has
returns-then-from-has c =
    comes_behind c.args.counter c.args.one.now c.args.other.now c.in-Some.needs c.in-Some.ensures
    (omega (arith, ints, c.if-from-has.true, c.from.ensures, c.from-2.ensures, c.from-3.ensures))
