use Rattle.c62_explain_packets.proofs.RemarkLemmas.{writer_on}
use Rattle.c62_explain_packets.proofs.linted.push_writer.Goals as goal

pub returns : goal.returns
returns c =
    writer_on c.push_verb.result c.args.early c.args.out.now.items c.extend_from_slice.new.self.items
    c.extend_from_slice-2.new.self.items
    c.push_verb.new.out.items c.in_ok-extend_from_slice.ensures.items
    (rw (← c.format.ensures.text, ← c.as_bytes.ensures.value) c.in_ok-extend_from_slice-2.ensures.items)
    c.push_verb.ensures
