use Rattle.std.proofs.Common.{◌≡◌, Ok, ap}
use Rattle.std.specs.Prelude.{map}
use Rattle.c62_listing_reader.specs.Said.{Drafts, all_drafts}
use Rattle.c62_listing_reader.specs.Reading.{draft_open, drafts_of}
use Rattle.c62_listing_reader.proofs.ClosedLemmas.{closed_if}
use Rattle.c62_listing_reader.proofs.ReadLemmas.{of_lines, of_blocks}
use Rattle.c62_listing_reader.proofs.reader.read_listing.Goals as goal

pub returns : goal.returns
returns c =
    let text = c.args.text.now in
    let drafts = drafts_of c.in_ok-blocks.blocks in
    let said = of_lines c.args.isa text (Ok drafts) c.if-text-gt-MOST_BYTES.false
    (rw c.in_ok-names.ensures at c.in_ok-blocks.ensures.0) in
    let done : map draft_open c.end_block.new.self.done.items ≡ all_drafts drafts = ap (λ (d : Drafts). d.done)
    c.in_ok-end_block.ensures in
    let read = of_blocks c.args.isa text drafts
    (map draft_open c.end_block.new.self.done.items) c.packets_of.result said done
    c.packets_of.ensures in
    record { read = read; closed = closed_if c.args.isa text c.packets_of.result read }
