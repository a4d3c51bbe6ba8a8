use Rattle.c62_json_check.proofs.document.check_document.Goals as goal

pub returns : goal.returns
returns c = record {
  others = c.in_ok-judged.judged.others.items;
  verdicts = c.in_ok-judged.judged.verdicts.items;
  judged = c.in_ok-judged.ensures;
  told = rw (c.blocks-blocks.ensures.same, c.blocks-listed.ensures.same) at c.in_ok-text.ensures;
  all = c.is_same-same.ensures;
}
