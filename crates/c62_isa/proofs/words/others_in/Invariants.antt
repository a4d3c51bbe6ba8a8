use Rattle.std.proofs.Common.{◌≡◌, ◌++◌, map, take}
use Rattle.std.specs.Prelude.{string_bytes}
use Rattle.std.specs.List.{flat_map}
use Rattle.c62_isa.specs.Words.{other_in, text_word}
use Rattle.c62_isa.proofs.words.others_in.Given as goal

abbrev pub invariant-loop-word : goal.invariant-loop-word
invariant-loop-word l =
    map string_bytes l.others.items ≡ map string_bytes l.initial.others.items ++ flat_map other_in
    (map text_word (take l.word-index l.words))
