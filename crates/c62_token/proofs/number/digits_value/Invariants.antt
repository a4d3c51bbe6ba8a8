use Rattle.c62_token.proofs.Common.{◌≡◌, ◌<◌, ◌^◌, take, digits_value}
use Rattle.c62_token.proofs.number.digits_value.Given as goal

abbrev pub invariant-loop-d : goal.invariant-loop-d
invariant-loop-d l = record {
  so_far : l.value ≡ digits_value l.radix (take l.d-index l.digits);
  bound : l.value < 16 ^ l.d-index;
}
