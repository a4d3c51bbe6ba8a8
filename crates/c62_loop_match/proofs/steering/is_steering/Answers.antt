use Rattle.std.proofs.Common.{rules, ◌≡◌, true}
use Rattle.std.specs.List.{list_all}
use Rattle.std.proofs.lemmas.Bool.{OnTrue_at, OnTrue_from}
use Rattle.c62_loop.specs.Whole.{IsSteering}
use Rattle.c62_loop_match.specs.Parts.{loop_of, control_of}
use Rattle.c62_loop_match.specs.Steering.{is_control, ComeInTurn}
use Rattle.c62_loop_match.proofs.ControlForms.{all-control}
use Rattle.c62_loop_match.proofs.Counting.{steers}
use Rattle.c62_loop_match.proofs.steering.is_steering.Goals as goal

pub returns-then-come_in_turn : goal.returns-then-come_in_turn
returns-then-come_in_turn c =
    OnTrue_from c.count_passes.result
    (IsSteering c.args.rule.counter (loop_of c.args.pipelined.now) c.args.rule.most
    (control_of c.args.control.now)) (λ t.
    let early : list_all (is_control c.args.rule.counter c.args.pipelined.now.label) c.args.control.now.early.items ≡
    true = search rules in
    let kernel : list_all (is_control c.args.rule.counter c.args.pipelined.now.label) c.args.control.now.kernel.items ≡
    true = search rules in
    let turns : ComeInTurn c.args.rule.counter c.args.rule.interval (control_of c.args.control.now) = search rules in
    steers c.args.rule (loop_of c.args.pipelined.now) c.args.prolog (control_of c.args.control.now) c.requires.prolog
    c.requires.interval
    (all-control c.args.rule.counter c.args.pipelined.now.label c.args.control.now.early.items early)
    (all-control c.args.rule.counter c.args.pipelined.now.label c.args.control.now.kernel.items kernel) turns
    (OnTrue_at t c.count_passes.ensures))
