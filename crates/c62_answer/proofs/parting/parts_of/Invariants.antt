use Rattle.std.proofs.Common.{length, ◌-◌}
use Rattle.c62_answer.proofs.FirstLine.{IsSearched}
use Rattle.c62_answer.proofs.parting.parts_of.Given as goal

abbrev pub invariant-loop-begin : goal.invariant-loop-begin
invariant-loop-begin l = IsSearched l.input l.begin

abbrev pub decreases-loop-begin : goal.decreases-loop-begin
decreases-loop-begin l = length l.input - l.begin
