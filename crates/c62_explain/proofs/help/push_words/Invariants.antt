use Rattle.std.proofs.Common.{◌≡◌, ◌++◌, drop, map}
use Rattle.std.specs.List.{flat_map}
use Rattle.c62_explain.proofs.help.push_words.Given as goal

abbrev pub invariant-loop-word : goal.invariant-loop-word
invariant-loop-word l =
    l.out.items ++ flat_map (λ word. word) (map (λ word. word.now) (drop l.word-index l.words))
    ≡ l.fn.out.items ++ flat_map (λ word. word) (map (λ word. word.now) l.words)
