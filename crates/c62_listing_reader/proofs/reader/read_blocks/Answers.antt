use Rattle.std.proofs.Common.{sym, arith, ◌∙◌, inl, inr}
use Rattle.c62_listing_reader.specs.declared.line.Above.TheVariants.{Start}
use Rattle.c62_listing_reader.specs.Text.{lines_in, content}
use Rattle.c62_listing_reader.specs.Cut.{line_cut}
use Rattle.c62_listing_reader.specs.Said.{no_drafts, labels_of, aim_by}
use Rattle.c62_listing_reader.specs.Faults.{read_lines}
use Rattle.c62_listing_reader.specs.Reading.{drafts_of, said_by, entries_of}
use Rattle.c62_listing_reader.proofs.FineBlocks.{has_unit, go, all-fine}
use Rattle.c62_listing_reader.proofs.ToldLemmas.{told}
use Rattle.c62_listing_reader.proofs.ReadLemmas.{goes_on, stops, is_done}
use Rattle.c62_listing_reader.proofs.reader.read_blocks.Goals as goal

pub returns-in-Err : goal.returns-in-Err
returns-in-Err c =
    let names = entries_of c.args.names.now in
    let labels = labels_of names in
    let aim = aim_by names in
    let lines = lines_in c.loop-cut.rest.now in
    let drafts = drafts_of c.loop-cut.blocks in
    c.fault_of_line.ensures (read_lines c.args.isa labels aim 1 no_drafts Start (lines_in c.args.names.now.text.now))
    (elim c.in-Err.ensures.judged [
      | inl memory ↦ inl memory
      | inr says ↦ inr (sym c.loop-cut.invariant.lines
          ∙ stops c.args.isa labels aim c.loop-cut.number (line_cut c.in-Some.cut)
          (lines_in c.in-Some.cut.rest.now) lines drafts c.loop-cut.above c.in-Err.fault c.in-Some.ensures.found says)
    ])

pub add-requires : goal.add-requires
add-requires c =
    let front = c.beginning-front.result in
    let line = line_cut c.in-Some.cut in
    let said = said_by front c.in-Ok-read.reading in
    let judged = rw c.in-Ok-read.is at c.in-Ok.ensures.judged in
    let is = told c.args.isa (labels_of (entries_of c.args.names.now))
    (drafts_of c.loop-cut.blocks) c.loop-cut.above line
    (lines_in c.in-Some.cut.rest.now) said judged in
    record { unit = has_unit (content line) front said.label said.says is.spelled; short = is.short }

pub loop-cut-preserved : goal.loop-cut-preserved
loop-cut-preserved c =
    let names = entries_of c.args.names.now in
    let labels = labels_of names in
    let aim = aim_by names in
    let number = c.loop-cut.number in
    let drafts = drafts_of c.loop-cut.blocks in
    let above = c.loop-cut.above in
    let line = line_cut c.in-Some.cut in
    let below = lines_in c.in-Some.cut.rest.now in
    let said = said_by c.beginning-front.result c.in-Ok-read.reading in
    let judged = rw c.in-Ok-read.is at c.in-Ok.ensures.judged in
    let is = told c.args.isa labels drafts above line below said judged in
    record {
      lines = rw (c.in_ok-add.ensures, c.above_next-above.ensures)
          (goes_on c.args.isa labels aim number line below
          (lines_in c.loop-cut.rest.now) drafts above said c.in-Some.ensures.found judged ∙ c.loop-cut.invariant.lines);
      going = rw (c.in_ok-add.ensures, c.above_next-above.ensures)
          (go c.args.isa labels aim number said drafts above line below c.loop-cut.invariant.going is);
      bound = omega (arith, c.in-Some.ensures.shorter, c.loop-cut.invariant.bound);
    }

pub returns : goal.returns
returns c =
    let names = entries_of c.args.names.now in
    let drafts = drafts_of c.loop-cut.blocks in (
      sym c.loop-cut.invariant.lines
          ∙ is_done c.args.isa (labels_of names) (aim_by names) c.loop-cut.number
          (lines_in c.loop-cut.rest.now) drafts c.loop-cut.above c.in_default.ensures.found,
      all-fine drafts c.loop-cut.above c.loop-cut.invariant.going,
      c.loop-cut.invariant.going.few,
    )
