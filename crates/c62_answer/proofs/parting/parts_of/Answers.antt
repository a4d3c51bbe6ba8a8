use Rattle.std.proofs.Common.{drop, rules}
use Rattle.std.proofs.lemmas.List.{take_rest}
use Rattle.c62_answer.specs.Parting.{IsBegun, NoneBegun}
use Rattle.c62_answer.proofs.FirstLine.{at_the_end, parted, searched_on, searched_out}
use Rattle.c62_answer.proofs.parting.parts_of.Goals as goal

pub returns-in-Some : goal.returns-in-Some
returns-in-Some c =
    let input = c.args.input.now in
    let begin = c.loop-begin.begin in
    let begun : IsBegun (drop begin input) c.in-Some.listing.now = rw (take_rest input begin) at c.in-Some.ensures in
    parted input begin c.in-Some.listing.now c.loop-begin.invariant begun

pub loop-begin-preserved : goal.loop-begin-preserved
loop-begin-preserved c =
    let input = c.args.input.now in
    let begin = c.loop-begin.begin in
    let none : NoneBegun (drop begin input) = rw (take_rest input begin) at c.in_default.ensures in
    searched_on input begin c.in-Some-memchr.end c.loop-begin.invariant none
    (rw (c.in-Some-memchr.is, take_rest input begin) at c.memchr.ensures)

pub returns-in-None : goal.returns-in-None
returns-in-None c =
    let input = c.args.input.now in
    let begin = c.loop-begin.begin in
    let none : NoneBegun (drop begin input) = rw (take_rest input begin) at c.in_default.ensures in
    searched_out input begin c.loop-begin.invariant none (rw (c.in-None.is, take_rest input begin) at c.memchr.ensures)

pub returns : goal.returns
returns c = at_the_end c.args.input.now c.loop-begin.begin c.loop-begin.invariant (search rules)
