use Rattle.std.proofs.Common.{◌≡◌}
use Rattle.std.proofs.lemmas.Result.{err_from_is_err_and}
use Rattle.c62_command.specs.CommandLine.{ask_told}
use Rattle.c62_answer.proofs.Runs.{answers, breaks_off, refuses}
use Rattle.c62_answer.proofs.tool.perform.Goals as goal

pub returns-in_err-reply-clause-err : goal.returns-in_err-reply-clause-err
returns-in_err-reply-clause-err g c =
    let p = err_from_is_err_and c.from_residual-in_err-reply.result c.from_residual-in_err-reply.ensures.1 in
    rw (p.1, p.2) (refuses c.args.isa (ask_told c.args.command.now) (g.R.Read.remaining c.args.reader.now)
    (g.W.Write.contents c.args.output.now) c.deref.result.now c.in_err-reply.field-0.0
    (rw (c.deref.ensures.value, ← c.limit_for.ensures.limit) c.in_ok-text.ensures.front) c.in_err-reply.ensures)

pub returns-clause-ok : goal.returns-clause-ok
returns-clause-ok g c =
    let reply_is : c.deref-2.result.now ≡ c.in_ok-reply.reply.text.items = c.deref-2.ensures.value in
    answers c.args.isa (ask_told c.args.command.now) (g.R.Read.remaining c.args.reader.now)
    (g.W.Write.contents c.args.output.now)
    (g.W.Write.contents c.write_out.new.output) c.deref.result.now c.in_ok-reply.reply
    (rw (c.deref.ensures.value, ← c.limit_for.ensures.limit) c.in_ok-text.ensures.front) c.in_ok-reply.ensures
    (rw reply_is at c.in_ok-write_out.ensures.ok)

pub returns-in_err-write_out-clause-err : goal.returns-in_err-write_out-clause-err
returns-in_err-write_out-clause-err g c =
    let reply_is : c.deref-2.result.now ≡ c.in_ok-reply.reply.text.items = c.deref-2.ensures.value in
    let p = err_from_is_err_and c.from_residual-in_err-write_out.result c.from_residual-in_err-write_out.ensures.1 in
    let off = breaks_off c.args.isa (ask_told c.args.command.now) (g.R.Read.remaining c.args.reader.now)
    (g.W.Write.contents c.args.output.now)
    (g.W.Write.contents c.write_out.new.output) c.deref.result.now c.in_ok-reply.reply
    (rw (c.deref.ensures.value, ← c.limit_for.ensures.limit) c.in_ok-text.ensures.front) c.in_ok-reply.ensures
    (rw reply_is at c.in_err-write_out.ensures.err.1) in
    rw (p.1, p.2, c.in_err-write_out.ensures.err.0) off
