use Rattle.std.proofs.Common.{◌≡◌, length, map, take}
use Rattle.c62_adopt_spell.specs.Number.{small_x}
use Rattle.c62_adopt_spell.proofs.number.small.Given as goal

abbrev pub invariant-loop-b : goal.invariant-loop-b
invariant-loop-b l = (length l.small.items ≡ l.b-index) × (l.small.items ≡ map small_x (take l.b-index l.word))
