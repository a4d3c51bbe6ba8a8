use Rattle.std.proofs.lemmas.Result.{IfOk-weaker}
use Rattle.std.proofs.Common.{◌∙◌, ◌++◌, sym, ap, append-nil}
use Rattle.c62_serial.specs.State.{word_in}
use Rattle.c62_pipe.specs.Flight.{act_at}
use Rattle.c62_trace.specs.Event.{events_at}
use Rattle.c62_trace.proofs.Shown.{insn_lines, lines_unseen}
use Rattle.c62_trace.proofs.line.push_insn.Goals as goal

pub returns-then-not-has : goal.returns-then-not-has
returns-then-not-has c =
    sym (append-nil c.args.out.now.items)
    ∙ ap (λ lines. c.args.out.now.items ++ lines)
    (sym (lines_unseen c.args.view.now c.args.cycle (events_at c.args.state.now.machine c.args.placed.now)
    (sym c.has.ensures ∙ c.if-not-has.true)))

pub returns : goal.returns
returns c = IfOk-weaker c.push_store.result _ _
    (λ _ more. insn_lines c.args.view.now c.args.cycle (word_in c.args.state.now.machine)
    (act_at c.args.placed.now c.args.state.now.machine) c.args.placed.now c.found-found.result.0 c.found-found.result.1
    c.args.out.now.items c.push_issue.new.out.items c.push_store.new.out.items (sym c.has.ensures ∙ c.if-not-has.false)
    c.found-found.ensures.runs c.found-found.ensures.access c.in_ok-push_issue.ensures more)
    c.push_store.ensures
