use Rattle.std.proofs.Common.{refl, rules}
use Rattle.c62_isa.proofs.Walks.{one_found_more}
use Rattle.c62_isa.proofs.words.found_in.Goals as goal

pub loop-word-preserved : goal.loop-word-preserved
loop-word-preserved c = one_found_more c.args.words.now c.loop-word.word-index _ _ _ _ _ (search rules) refl
    c.and_word-found.ensures c.loop-word.invariant
