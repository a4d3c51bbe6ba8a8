use Rattle.std.proofs.Common.{◌≡◌, ◌++◌, map, take}
use Rattle.std.specs.Prelude.{string_bytes}
use Rattle.std.specs.List.{flat_map}
use Rattle.c62_teach.specs.Words.{plain_word}
use Rattle.c62_teach.proofs.words.plain_words.Given as goal

abbrev pub invariant-loop-word : goal.invariant-loop-word
invariant-loop-word l =
    map (λ word. word.now) l.plain.items
    ≡ map (λ word. word.now) l.initial.plain.items ++ flat_map plain_word (map string_bytes (take l.word-index l.words))
