use Rattle.std.proofs.Common.{◌≡◌, ◌++◌, map, take}
use Rattle.std.specs.Prelude.{string_bytes}
use Rattle.std.specs.List.{flat_map}
use Rattle.c62_teach.specs.Words.{other_word}
use Rattle.c62_teach.proofs.words.other_words.Given as goal

abbrev pub invariant-loop-word : goal.invariant-loop-word
invariant-loop-word l =
    map (λ word. word.now) l.others.items
    ≡ map (λ word. word.now) l.initial.others.items ++ flat_map other_word (map string_bytes
    (take l.word-index l.words))
