use Rattle.std.proofs.Common.{rules, ◌+◌, ◌<◌, ◌++◌, ◌∙◌, map, length, sym, ap, List}
use Rattle.c62_packet.specs.declared.placed.Placed.{Placed}
use Rattle.c62_flight.specs.Issued.{issue_in}
use Rattle.c62_rows.specs.Rows.{row_read, text_of}
use Rattle.c62_loop_match.proofs.Rows.{on_way, row_is}
use Rattle.c62_check_rest.proofs.laid.lay_out.Goals as goal

pub loop-number-preserved : goal.loop-number-preserved
loop-number-preserved c =
    let inside : c.loop-number.number < length c.args.rows.now.rows.items = search rules in
    on_way (text_of c.args.rows.now) c.args.first c.args.count 0 c.loop-number.number
    (c.args.first + c.args.count) c.loop-number.end c.in-Some.next (row_read c.index-row.result.now)
    c.loop-number.issued.items c.in_ok-of_row.of_row.items c.extend_from_slice.new.self.items c.loop-number-test.true
    (row_is c.args.rows.now c.loop-number.number c.index-row.result.now inside ∙ ap row_read (sym c.index-row.ensures))
    (c.in_ok-of_row.ensures ∙ ap (map (issue_in c.loop-number.end)) c.deref.ensures.value) c.in-Some.ensures
    (c.in_ok-extend_from_slice.ensures.items
    ∙ ap (λ (xs : List Placed). c.loop-number.issued.items ++ xs) c.deref-in-loop-number.ensures.value)
    c.loop-number.invariant
