use Rattle.std.proofs.Common.{◌≡◌, ◌++◌, take}
use Rattle.std.specs.Prelude.{string_bytes}
use Rattle.c62_files.specs.Load.{numbers_behind}
use Rattle.c62_files.proofs.load.push_numbers.Given as goal

abbrev pub invariant-loop-byte : goal.invariant-loop-byte
invariant-loop-byte l = string_bytes l.word ≡ string_bytes l.fn.word ++ numbers_behind (take l.byte-index l.bytes)
