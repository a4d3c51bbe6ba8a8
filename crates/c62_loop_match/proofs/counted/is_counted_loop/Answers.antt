use Rattle.std.proofs.Common.{rules, ◌≡◌, true, not}
use Rattle.std.specs.Prelude.{◌==◌}
use Rattle.std.proofs.lemmas.Bool.{OnTrue_from, eqb-true}
use Rattle.std.specs.List.{list_all}
use Rattle.c62_loop.specs.Counter.{steps_in}
use Rattle.c62_loop_match.specs.Form.{counts}
use Rattle.c62_op.specs.Shape.{is_branch}
use Rattle.c62_insn.specs.Insn.{op_of}
use Rattle.c62_read.specs.declared.block.SerialInsn.{SerialInsn}
use Rattle.c62_loop_match.proofs.Forms.{all-counted, all-straight}
use Rattle.c62_loop_match.proofs.counted.is_counted_loop.Goals as goal

pub returns-then-has_steps-clause-counted : goal.returns-then-has_steps-clause-counted
returns-then-has_steps-clause-counted c = OnTrue_from c.has_steps-then-has_steps.result _ (λ t.
    let region = c.args.region.now in
    let before : list_all (λ (entry : SerialInsn). not (is_branch (op_of entry.insn))) region.before.items ≡ true
    = search rules in
    let body : list_all (counts region.counter region.number) region.body.items ≡ true = search rules in
    let behind : list_all (counts region.counter region.number) region.behind.items ≡ true = search rules in
    let one : (steps_in region.counter region.body.items == 1) ≡ true = search rules in
    let none : (steps_in region.counter region.behind.items == 0) ≡ true = search rules in
    record {
      straight_before = all-straight region.before.items before;
      body = all-counted region.counter region.number region.body.items body;
      behind = all-counted region.counter region.number region.behind.items behind;
      one_step = eqb-true (steps_in region.counter region.body.items) 1 one;
      no_step_behind = eqb-true (steps_in region.counter region.behind.items) 0 none;
    })

pub returns-then-has_steps-clause-written : goal.returns-then-has_steps-clause-written
returns-then-has_steps-clause-written c =
    let region = c.args.region.now in
    let before : list_all (λ (entry : SerialInsn). not (is_branch (op_of entry.insn))) region.before.items ≡ true
    = search rules in
    let body : list_all (counts region.counter region.number) region.body.items ≡ true = search rules in
    let behind : list_all (counts region.counter region.number) region.behind.items ≡ true = search rules in
    let one : (steps_in region.counter region.body.items == 1) ≡ true = search rules in
    rw (before, body, behind, one) (search rules)
