use Rattle.std.proofs.Common.{refl, ◌≡◌, true, false, Ok, inr, sym, ap, ◌∙◌}
use Rattle.c62_line.specs.Line.{line_of, said_of}
use Rattle.c62_listing_reader.specs.Text.{content}
use Rattle.c62_listing_reader.specs.Cut.{line_cut}
use Rattle.c62_listing_reader.specs.Begin.{rest_of}
use Rattle.c62_listing_reader.specs.Reading.{drafts_of, read_as}
use Rattle.c62_listing_reader.proofs.ToldLines.{rest_read}
use Rattle.c62_listing_reader.proofs.judge.with_rest.Goals as goal

pub returns-then-is_label_taken-clause-judged : goal.returns-then-is_label_taken-clause-judged
returns-then-is_label_taken-clause-judged c =
    let drafts = drafts_of c.args.blocks.now in
    let rest = rest_of c.args.front (content (line_cut c.args.cut.now)) in
    let reading = c.in-Ok.reading in
    let read : line_of c.args.isa rest ≡ Ok (reading.label, said_of reading.what) =
    sym c.requires ∙ ap read_as c.in-Ok.is in
    let says = rest_read c.args.isa drafts rest reading.label (said_of reading.what) true read
    (sym c.is_label_taken.ensures
    ∙ c.if-is_label_taken.true) in
    inr (rw says refl)

pub returns-else-is_label_taken-clause-judged : goal.returns-else-is_label_taken-clause-judged
returns-else-is_label_taken-clause-judged c =
    let drafts = drafts_of c.args.blocks.now in
    let rest = rest_of c.args.front (content (line_cut c.args.cut.now)) in
    let reading = c.in-Ok.reading in
    let read : line_of c.args.isa rest ≡ Ok (reading.label, said_of reading.what) =
    sym c.requires ∙ ap read_as c.in-Ok.is in
    let says = rest_read c.args.isa drafts rest reading.label (said_of reading.what) false read
    (sym c.is_label_taken.ensures
    ∙ c.if-is_label_taken.false) in
    rw (c.in-Ok.is, says) c.with_reading.ensures
