use Rattle.c62_token.proofs.Common.{◌+◌, ◌-◌, eqb, length, arith, is_allowed, take_rest}
use Rattle.c62_token.proofs.StepLemmas.{all_more, all_over, any_more, any_over}
use Rattle.c62_token.proofs.scan.scan_line.Goals as goal

pub loop-start-preserved : goal.loop-start-preserved
loop-start-preserved c =
    let start = c.loop-start.start in
    let all = all_more is_allowed start (start + 16) c.args.line.now (omega arith) in
    let any = any_more (λ b. eqb b 58) start (start + 16) c.args.line.now (omega arith) in
    record { within = omega (arith, c.loop-start-test.true, c.loop-start.invariant.within); allowed = cc; colon = cc }

pub returns-clause-allowed : goal.returns-clause-allowed
returns-clause-allowed c =
    let line = c.args.line.now in
    let last = take_rest line (length line - 16) in
    let all = all_over is_allowed (length line - 16) c.loop-start.start line (omega (arith, c.loop-start-test.false)) in
    cc

pub returns-clause-colon : goal.returns-clause-colon
returns-clause-colon c =
    let line = c.args.line.now in
    let last = take_rest line (length line - 16) in
    let any = any_over (λ b. eqb b 58) (length line - 16) c.loop-start.start line
    (omega (arith, c.loop-start-test.false)) in
    cc
