use Rattle.std.proofs.Common.{◌≡◌, length}
use Rattle.std.specs.Option.{option_or}
use Rattle.c62_adopt_spell.specs.Names.{value_named}
use Rattle.c62_adopt_spell.proofs.names.value_named.Given as goal

abbrev pub invariant-loop-rest : goal.invariant-loop-rest
invariant-loop-rest l = option_or (value_named l.rest l.word) l.found ≡ value_named l.names l.word

abbrev pub decreases-loop-rest : goal.decreases-loop-rest
decreases-loop-rest l = length l.rest
