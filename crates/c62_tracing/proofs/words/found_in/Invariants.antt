use Rattle.std.proofs.Common.{◌≡◌, Some, drop, map}
use Rattle.std.specs.Prelude.{fold, option_map}
use Rattle.c62_tracing.specs.Words.{and_word, asked_in, nothing_asked, text_word}
use Rattle.c62_tracing.proofs.words.found_in.Given as goal

abbrev pub invariant-loop-word : goal.invariant-loop-word
invariant-loop-word l =
    fold and_word (option_map asked_in l.found) (map text_word (drop l.word-index l.words))
    ≡ fold and_word (Some nothing_asked) (map text_word l.words)
