use Rattle.std.proofs.Common.{◌≡◌, drop, map}
use Rattle.c62_isa.specs.declared.word.Wants.TheVariants.{Nothing}
use Rattle.c62_isa.specs.Words.{asks}
use Rattle.c62_isa.proofs.words.asks.Given as goal

abbrev pub invariant-loop-word : goal.invariant-loop-word
invariant-loop-word g l = asks l.wants (map g.S.AsStr.text (drop l.word-index l.words)) ≡ asks Nothing
    (map g.S.AsStr.text l.words)
