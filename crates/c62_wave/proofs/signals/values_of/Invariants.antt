use Rattle.std.proofs.Common.{◌≡◌, length, map, take}
use Rattle.c62_wave.specs.declared.value.Value.TheVariants.{Word}
use Rattle.c62_wave.proofs.signals.values_of.Given as goal

abbrev pub invariant-loop-index : goal.invariant-loop-index
invariant-loop-index l = (length l.values ≡ 32) × (take l.index l.values ≡ map Word (take l.index l.words))
