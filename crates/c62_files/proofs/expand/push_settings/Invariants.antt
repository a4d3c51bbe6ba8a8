use Rattle.std.proofs.Common.{◌≡◌, ◌++◌, drop, map}
use Rattle.std.specs.Prelude.{string_bytes}
use Rattle.std.specs.Str.Lossy.{utf8_lossy}
use Rattle.c62_files.specs.Settings.{settings_words}
use Rattle.c62_files.proofs.expand.push_settings.Given as goal

abbrev pub invariant-loop-word : goal.invariant-loop-word
invariant-loop-word l =
    map string_bytes l.words.items ++ map utf8_lossy (map (λ word. word.items) (drop l.word-index l.word-items))
    ≡ map string_bytes l.fn.words.items ++ map utf8_lossy (settings_words l.bytes)
