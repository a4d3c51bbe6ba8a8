use Rattle.std.proofs.Common.{◌≡◌, ◌++◌, drop}
use Rattle.c62_rows.specs.Word.{undotted}
use Rattle.c62_rows.proofs.word.undotted.Given as goal

abbrev pub invariant-loop-b : goal.invariant-loop-b
invariant-loop-b l = l.plain.items ++ undotted (drop l.b-index l.name) ≡ undotted l.name
