use Rattle.std.proofs.Common.{◌≡◌, ◌++◌, drop, length}
use Rattle.c62_adopt_line.specs.Plain.{undotted}
use Rattle.c62_adopt_line.proofs.plain.undotted.Given as goal

abbrev pub invariant-loop-b : goal.invariant-loop-b
invariant-loop-b l =
    (length l.bytes.items ≡ l.b-index)
    × (l.bytes.items ++ undotted l.names (drop l.b-index l.line) ≡ undotted l.initial.names l.line)
