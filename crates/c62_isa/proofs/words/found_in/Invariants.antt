use Rattle.std.proofs.Common.{◌≡◌, Some, None, drop, map}
use Rattle.std.specs.Prelude.{fold}
use Rattle.c62_isa.specs.Words.{and_word, text_word}
use Rattle.c62_isa.proofs.words.found_in.Given as goal

abbrev pub invariant-loop-word : goal.invariant-loop-word
invariant-loop-word l =
    fold and_word l.found (map text_word (drop l.word-index l.words))
    ≡ fold and_word (Some None) (map text_word l.words)
