use Rattle.c62_read.proofs.Common.{◌≡◌, drop, key_from}
use Rattle.c62_read.proofs.jump.key_of.Given as goal

abbrev pub invariant-loop-byte : goal.invariant-loop-byte
invariant-loop-byte l = key_from l.key (drop l.byte-index l.label) ≡ key_from 0 l.label
