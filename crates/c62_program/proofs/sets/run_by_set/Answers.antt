use Rattle.std.proofs.Common.{◌≡◌, None, Some, map, rules}
use Rattle.c62_isa.specs.Words.{asked_set}
use Rattle.c62_program.proofs.BySet.{misnamed, named}
use Rattle.c62_program.proofs.sets.run_by_set.Goals as goal

pub returns-in-Ok-None : goal.returns-in-Ok-None
returns-in-Ok-None g c =
    let none : asked_set (map g.S.AsStr.text c.args.words.now) ≡ None = search rules in
    misnamed _ _ _ _ _ _ _ _ none c.tell_sets.ensures.status c.tell_sets.ensures.said

pub returns : goal.returns
returns g c =
    let some : asked_set (map g.S.AsStr.text c.args.words.now) ≡ Some c.in-Ok-Some.isa = search rules in
    named c.in-Ok-Some.isa _ _ _ _ _ _ _ _ some c.in-Ok.ensures
    (rw c.deref.ensures.value at c.run_reading.ensures)
