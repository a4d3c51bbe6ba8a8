use Rattle.std.proofs.Common.{◌≡◌, ◌++◌, drop, map}
use Rattle.c62_explain.specs.Picture.{blank_byte}
use Rattle.c62_explain.proofs.picture.push_blanks.Given as goal

abbrev pub invariant-loop-b : goal.invariant-loop-b
invariant-loop-b l = l.out.items ++ map blank_byte (drop l.b-index l.bytes) ≡ l.fn.out.items ++ map blank_byte l.bytes
