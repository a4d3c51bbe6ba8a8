use Rattle.std.proofs.Common.{Global, ◌≡◌, map, refl, rules, true}
use Rattle.std.proofs.lemmas.Result.{IfOk-weaker, on_err_weaker}
use Rattle.std.specs.Prelude.{string_bytes}
use Rattle.c62_program.specs.Program.{is_made}
use Rattle.c62_program.proofs.Dumps.{dumped_all, has_begun, has_written, on_err}
use Rattle.c62_program.proofs.Failing.{not_begun}
use Rattle.c62_program.proofs.dumping.run_dumping.Goals as goal

pub returns-in_err-status-clause-kept : goal.returns-in_err-status-clause-kept
returns-in_err-status-clause-kept g c = on_err c.from_residual.result (not_begun _ _ _ refl)

pub returns-in_err-write_memory-clause-kept : goal.returns-in_err-write_memory-clause-kept
returns-in_err-write_memory-clause-kept g c =
    on_err c.from_residual-in_err-write_memory.result
    (has_begun _ _ _ c.args.kept.now.counts.items c.parted.result.1.now
    (rw (c.deref-4.ensures.value, c.deref-5.ensures.value) at c.in_err-write_memory.ensures.begun))

pub returns-clause-kept : goal.returns-clause-kept
returns-clause-kept g c =
    on_err_weaker c.deliver.result
    (λ kept. has_written _ _ _ _ c.args.kept.now.counts.items c.parted.result.1.now
    (rw (c.deref-4.ensures.value, c.deref-5.ensures.value) at c.in_ok-write_memory.ensures.ok) kept)
    c.deliver.ensures.kept

pub returns-clause-ok : goal.returns-clause-ok
returns-clause-ok g c =
    let is_true : is_made (map (string_bytes {Z = Global}) c.args.words.now) c.in_ok-status.status ≡ true = search rules
    in
    IfOk-weaker c.deliver.result _ _
    (λ status delivered. dumped_all c.args.isa c.write_whole.result (g.F.Folder.holds c.args.folder.now)
    (g.F.Folder.holds c.write_memory.new.folder) (g.F.Folder.holds c.deliver.new.folder)
    (map (string_bytes {Z = Global}) c.args.words.now) c.args.call.now c.args.kept.now c.run_words.new.output.items
    c.parted.result.0.now c.parted.result.1.now c.limit_said.result.now
    (g.R.Read.remaining c.args.input.now) (g.R.Read.remaining c.run_words.new.input)
    (g.W.Write.contents c.args.output.now) (g.W.Write.contents c.deliver.new.output)
    (g.E.Write.contents c.args.errors.now) (g.E.Write.contents c.run_words.new.errors)
    (g.E.Write.contents c.write_whole.new.stream) (g.E.Write.contents c.deliver.new.errors) c.in_ok-status.status status
    is_true (rw c.new-answer.ensures.items at c.in_ok-status.ensures.ok)
    (rw (c.deref.ensures.value, c.deref-2.ensures.value) at c.parted.ensures.report)
    (rw (c.deref.ensures.value, c.deref-2.ensures.value) at c.parted.ensures.dumped)
    (rw c.deref-3.ensures.value at c.limit_said.ensures) c.write_whole.ensures
    (rw (c.deref-4.ensures.value, c.deref-5.ensures.value) at c.in_ok-write_memory.ensures.ok) delivered)
    c.deliver.ensures.ok
