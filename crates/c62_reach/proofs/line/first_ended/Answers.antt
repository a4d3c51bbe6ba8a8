use Rattle.std.proofs.Common.{◌<◌, ◌+◌, length, rules}
use Rattle.std.proofs.lemmas.List.{take_rest}
use Rattle.c62_reach.proofs.Lines.{first_is, only_is}
use Rattle.c62_reach.proofs.line.first_ended.Goals as goal

pub returns-in-Some-clause-found : goal.returns-in-Some-clause-found
returns-in-Some-clause-found c = rw (take_rest c.args.text.now (c.in-Some.end + 1))
    (first_is c.args.text.now c.in-Some.end (rw c.in-Some.is at c.memchr.ensures))

pub returns-in-None-clause-found : goal.returns-in-None-clause-found
returns-in-None-clause-found c =
    let some : 0 < length c.args.text.now = search rules in
    only_is c.args.text.now some (rw c.in-None.is at c.memchr.ensures)
