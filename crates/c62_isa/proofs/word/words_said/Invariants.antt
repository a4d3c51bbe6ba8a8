use Rattle.std.proofs.Common.{◌≡◌, ◌++◌, map, drop}
use Rattle.c62_isa.specs.Words.{said, text_word, wanted_at_end}
use Rattle.c62_isa.proofs.word.words_said.Given as goal

abbrev pub invariant-loop-word : goal.invariant-loop-word
invariant-loop-word g l = record {
  words : map text_word l.said.items ++ said l.wants (map g.S.AsStr.text (drop l.word-index l.words)) ≡ said
      l.fn.wants (map g.S.AsStr.text l.words);
  wants : wanted_at_end l.wants (map g.S.AsStr.text (drop l.word-index l.words)) ≡ wanted_at_end l.fn.wants
      (map g.S.AsStr.text l.words);
}
