use Rattle.std.proofs.Common.{◌≡◌, drop, map}
use Rattle.std.specs.Prelude.{fold}
use Rattle.c62_gnu_labels.specs.Words.{found_after, found_in}
use Rattle.c62_gnu_labels.proofs.words.found_in.Given as goal

abbrev pub invariant-loop-word : goal.invariant-loop-word
invariant-loop-word g l =
    fold found_after l.found (map g.S.AsStr.text (drop l.word-index l.words)) ≡ found_in (map g.S.AsStr.text l.words)
