use Rattle.std.proofs.Common.{rules, ◌≡◌}
use Rattle.c62_read.specs.Block.{labels_in}
use Rattle.c62_packet.specs.Packets.{labels_of}
use Rattle.c62_check.specs.Lines.{told_lines}
use Rattle.c62_check.proofs.checked.check.Goals as goal

pub returns : goal.returns
returns c =
    let judged = c.in_ok-judged.judged in
    let told : c.push_judged.new.out.items ≡ told_lines (labels_of c.blocks-listed.result.now)
    (labels_in c.blocks-blocks.result.now) judged.others.items judged.verdicts.items = search rules in
    record {
      others = judged.others.items;
      verdicts = judged.verdicts.items;
      judged = c.in_ok-judged.ensures;
      told = rw (c.blocks-blocks.ensures.same, c.blocks-listed.ensures.same) at told;
      all = c.is_same-same.ensures;
    }
