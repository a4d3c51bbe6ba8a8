use Rattle.std.proofs.Common.{rules, arith, ◌+◌, ◌<◌, ◌≤◌, ◌∙◌, sym, length}
use Rattle.std.specs.Prelude.{All, ◌==◌}
use Rattle.std.proofs.lemmas.Bool.{OnTrue_from, eqb-true}
use Rattle.c62_packet.specs.Packed.{HaveOneBranch}
use Rattle.c62_flight.specs.Text.{IsIssuable}
use Rattle.c62_rows.specs.Rows.{text_of}
use Rattle.c62_loop.specs.Loop.{IsPipelined, last_row}
use Rattle.c62_loop_match.specs.Parts.{loop_of}
use Rattle.c62_loop_match.proofs.Rows.{one_branch, row_count}
use Rattle.c62_loop_match.proofs.layout.is_pipelined.Goals as goal

pub returns-then-pipelined-gt0 : goal.returns-then-pipelined-gt0
returns-then-pipelined-gt0 c = OnTrue_from
    (c.aim_of.result == (c.args.pipelined.now.first + c.args.pipelined.now.prolog))
    (IsPipelined (loop_of c.args.pipelined.now)) (λ t.
    let fine : IsIssuable (text_of c.args.pipelined.now.rows) = search rules in
    let branches : All (λ row. HaveOneBranch row.insns.items) c.args.pipelined.now.rows.rows.items = search rules in
    let some : 0 < c.args.pipelined.now.kernel = search rules in
    let inside : last_row (loop_of c.args.pipelined.now) ≤ length c.args.pipelined.now.rows.rows.items = search rules in
    let count = row_count c.args.pipelined.now.rows in
    record {
      issuable = fine;
      one_branch = λ number low high. one_branch c.args.pipelined.now.rows branches number (omega arith);
      rows = omega arith;
      some = some;
      labelled = sym c.aim_of.ensures
          ∙ eqb-true c.aim_of.result (c.args.pipelined.now.first + c.args.pipelined.now.prolog) t;
    })
