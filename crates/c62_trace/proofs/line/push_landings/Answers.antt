use Rattle.std.proofs.Common.{◌∙◌, ◌++◌, map, sym, ap, append-nil}
use Rattle.std.proofs.lemmas.Result.{on_ok_weaker}
use Rattle.c62_trace.specs.Event.{Landed}
use Rattle.c62_trace.proofs.Shown.{landed_lines, lines_unseen}
use Rattle.c62_trace.proofs.line.push_landings.Goals as goal

pub returns-then-not-has : goal.returns-then-not-has
returns-then-not-has c =
    sym (append-nil c.args.out.now.items)
    ∙ ap (λ lines. c.args.out.now.items ++ lines)
    (sym (lines_unseen c.args.view.now c.args.cycle (map Landed c.args.writes.now)
    (sym c.has.ensures ∙ c.if-not-has.true)))

pub returns : goal.returns
returns c = on_ok_weaker c.push_all_landed.result
    (landed_lines c.args.view.now c.args.cycle c.args.writes.now c.args.out.now.items c.push_all_landed.new.out.items
    (sym c.has.ensures ∙ c.if-not-has.false))
    c.push_all_landed.ensures
