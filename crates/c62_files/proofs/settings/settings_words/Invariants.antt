use Rattle.std.proofs.Common.{◌≡◌, drop}
use Rattle.c62_files.specs.Settings.{settings_words, told}
use Rattle.c62_files.proofs.settings.settings_words.Given as goal

abbrev pub invariant-loop-byte : goal.invariant-loop-byte
invariant-loop-byte l = told l.reading (drop l.byte-index l.bytes) ≡ settings_words l.bytes
