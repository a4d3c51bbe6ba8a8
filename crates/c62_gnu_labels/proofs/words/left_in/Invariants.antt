use Rattle.std.proofs.Common.{◌≡◌, ◌++◌, drop, map}
use Rattle.std.specs.Prelude.{string_bytes}
use Rattle.c62_gnu_labels.specs.Words.{left_behind, left_in}
use Rattle.c62_gnu_labels.proofs.words.left_in.Given as goal

abbrev pub invariant-loop-word : goal.invariant-loop-word
invariant-loop-word g l =
    map string_bytes l.others.items ++ left_behind l.found (map g.S.AsStr.text (drop l.word-index l.words))
    ≡ left_in (map g.S.AsStr.text l.words)
