use Rattle.std.proofs.Common.{map}
use Rattle.c62_program.specs.Whole.{Fails, Runs}
use Rattle.c62_program.proofs.Failing.{called, mistaken}
use Rattle.c62_program.proofs.program.run_others.Goals as goal

pub returns-in-Err : goal.returns-in-Err
returns-in-Err g c =
    let words = map g.S.AsStr.text c.args.words.now in
    Fails c.requires.page c.requires.topic (mistaken _ words c.in-Err.error _ _ _ _ _ c.in-Err.ensures.err
    c.give_up.ensures.status c.give_up.ensures.said)

pub returns-in-Ok-run_call : goal.returns-in-Ok-run_call
returns-in-Ok-run_call g c =
    Runs c.in-Ok.call c.requires.page c.requires.topic c.requires.traced c.in-Ok.ensures.ok
    c.in-Ok-run_call.ensures.ok

pub returns : goal.returns
returns g c =
    let words = map g.S.AsStr.text c.args.words.now in
    let failed = c.in-Err-run_call.ensures in
    Fails c.requires.page c.requires.topic (called _ _ words c.in-Ok.call c.in-Err-run_call.trouble _ _ _ _
    c.in-Ok.ensures.ok failed.why c.give_up-in-Err-run_call.ensures.status
    failed.silent c.give_up-in-Err-run_call.ensures.said failed.err failed.kept)
