use Rattle.c62_check.proofs.judged.judge.Goals as goal

pub returns : goal.returns
returns c = record {
  are_others = rw (c.blocks-blocks.ensures.same, c.blocks-listed.ensures.same) at c.in_ok-others.ensures;
  are_verdicts = rw (c.blocks-blocks.ensures.same, c.blocks-listed.ensures.same) at c.in_ok-verdicts.ensures;
}
