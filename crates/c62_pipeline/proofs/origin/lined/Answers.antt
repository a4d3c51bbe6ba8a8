use Rattle.std.proofs.Common.{rules, List, ◌≡◌, ◌∙◌, ◌<◌, ◌≤◌, length, get_or, refl, sym, ap, subst}
use Rattle.std.specs.Prelude.{All}
use Rattle.std.proofs.lemmas.List.Elements.{All-push}
use Rattle.c62_flight.specs.Text.{Row}
use Rattle.c62_rows.specs.declared.rows.Row.{Row as RowRead}
use Rattle.c62_rows.specs.Rows.{row_read}
use Rattle.c62_check_loop.specs.Relined.{row_unlined}
use Rattle.c62_pipeline.specs.Lined.{IsLined}
use Rattle.c62_pipeline.proofs.Lining.{image_next, image_whole, rows_lined}
use Rattle.c62_pipeline.proofs.origin.lined.Goals as goal

abbrev plain : RowRead → Row
plain row = row_unlined (row_read row)

pub loop-number-preserved : goal.loop-number-preserved
loop-number-preserved c =
    let at = c.loop-number in
    let blocks = c.args.blocks.now in
    let rows = c.args.rows.now.rows.items in
    let row = c.index-row.result.now in
    let lined = c.in_ok-lined_row.field-0 in
    let inside : at.number < length rows = search rules in
    let here : row ≡ get_or rows at.number row = search rules in (
      image_next plain plain rows at.lined.items c.push.new.self.items at.number row lined at.invariant.0 inside
          (ap plain (sym here) ∙ c.in_ok-lined_row.ensures.same) c.in_ok-push.ensures.items,
      subst (λ (all : List RowRead). All (λ (r : RowRead). All (IsLined blocks) r.insns.items) all)
          (sym c.in_ok-push.ensures.items)
          (All-push (λ (r : RowRead). All (IsLined blocks) r.insns.items) at.lined.items lined at.invariant.1
          c.in_ok-lined_row.ensures.lined),
    )

pub returns : goal.returns
returns c =
    let at = c.loop-number in
    let rows = c.args.rows.now in
    let end : length rows.rows.items ≤ at.number = search rules in
    rows_lined c.args.blocks.now rows (record { rows = at.lined; aims = c.in_ok-aims.aims }) at.lined.items
    c.in_ok-aims.aims.items refl refl (c.in_ok-aims.ensures.items ∙ c.deref.ensures.value)
    (image_whole plain plain rows.rows.items at.lined.items at.number at.invariant.0 end) at.invariant.1
