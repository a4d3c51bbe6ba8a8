use Rattle.std.proofs.Common.{◌≡◌, ◌<◌, ◌^◌, take}
use Rattle.std.specs.Str.Parse.{digits_value}
use Rattle.c62_adopt_spell.proofs.number.bits_value.Given as goal

abbrev pub invariant-loop-d : goal.invariant-loop-d
invariant-loop-d l = record {
  so_far : l.value ≡ digits_value 2 (take l.d-index l.digits);
  bound : l.value < 2 ^ l.d-index;
}
